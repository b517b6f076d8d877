-- The courses of a track and of all tracks, as a process begins and sends in them. Many definitions are those of `Course`
-- with the graph and the order of a setting.
use Rattle.std.specs.Prelude.{ℕ, ◌+◌, ◌-◌, ◌≡◌, max, Bool, List, [], Option, Some, None, length, map, get_or, replicate}
use Rattle.std.specs.Prelude.{slice_set}
use Rattle.cpg_base.specs.Bus.{next_slot, round}
use Rattle.cpg_base.specs.Graph.{Graph, process_count, node_of, process_at}
use Rattle.cpg_base.specs.Numbers.{greatest, numbers_below}
use Rattle.cpg_base.specs.Duration.{due}
use Rattle.cpg_base.specs.Order.{place}
use Rattle.cpg_bus.specs.Plan.{queue_of}
use Rattle.cpg_run.specs.Known.{frozen_in, no_times}
use Rattle.cpg_run.specs.Progress.{ProgressState}
use Rattle.cpg_run.specs.Run.{end_in, input_bounds}
use Rattle.cpg_run.specs.declared.setting.Setting.{Setting}
use Rattle.cpg_latest.specs.Latest.{latest_end, with_faults}
use Rattle.cpg_latest.specs.Course.{AreLanes, AreSettledOf, ForLatest, IsCourse, IsDone, IsEarlier, IsReadyFor}
use Rattle.cpg_latest.specs.Course.{IsSending, last_end}

-- the course c has the latest times of an outcome with n faults before the place i; all earlier items are done
abbrev pub IsBefore : Setting → List (Option ℕ) → ℕ → List Bool → ℕ → ProgressState → Type 0
IsBefore setting frozen i values n c = IsCourse setting.problem.now setting.order.now
    (IsEarlier setting.problem.now setting.order.now i) frozen values i n c

-- the course c has the latest times before the place of p; beside the earlier items the start of p is done, so that its
-- frozen time is set if it has one
abbrev pub CanBegin : Setting → List (Option ℕ) → ℕ → List Bool → ℕ → ProgressState → Type 0
CanBegin setting frozen p values n c =
    IsCourse setting.problem.now setting.order.now (IsDone setting.problem.now setting.order.now p 0) frozen values
    (place setting.order.now p) n c

-- in the course c the process p has begun, if it is active, and sent the first k of its items; of its items the first d
-- are done, so that their frozen times are set
abbrev pub HasSentTo : Setting → List (Option ℕ) → ℕ → ℕ → ℕ → List Bool → ℕ → ProgressState → Type 0
HasSentTo setting frozen p d k values n c = IsSending setting.problem.now setting.order.now
    (IsDone setting.problem.now setting.order.now p d) frozen values p k n c

-- `last` is the latest end of p with one fault less than n, or 0 if n is 0
abbrev pub IsLastEnd : Setting → List (Option ℕ) → ℕ → List Bool → ℕ → ℕ → Type 0
IsLastEnd setting frozen p values n last =
    ForLatest setting.problem.now setting.order.now (IsDone setting.problem.now setting.order.now p 0) frozen values
    (λ late. last ≡ last_end setting.problem.now late n p)

-- `end` is the latest end of p with n faults
abbrev pub IsEndOf : Setting → List (Option ℕ) → ℕ → List Bool → ℕ → ℕ → Type 0
IsEndOf setting frozen p values n end =
    ForLatest setting.problem.now setting.order.now (IsDone setting.problem.now setting.order.now p 0) frozen values
    (λ late. end ≡ latest_end setting.problem.now late n p)

-- the course with all the faults of the graph; an empty one if the lane is too short
abbrev pub last_course : Graph → List ProgressState → ProgressState
last_course g courses =
    get_or courses g.faults (record { known = record { times = []; ends = []; finish = 0 }; ready = []; free = [] })

-- `time` is when p could start in the course c if it were not frozen
pub record IsUnfrozenStart (g : Graph) (values : List Bool) (p : ℕ) (c : ProgressState) (time : ℕ) : Type 0 where
  -- when the node is ready for p
  pub ready : ℕ
  pub is_ready : IsReadyFor g values p c ready
  -- the latest of that, the release, and when the live inputs are there
  pub is : time ≡ max (max ready (process_at g p).release) (greatest (input_bounds g (with_faults values []) c.known p))

-- when the next item of p could be sent in the course c if it were not frozen: in the first slot from the end of p on,
-- but not before the slots of its node are free
abbrev pub unfrozen_send : Graph → ℕ → ProgressState → ℕ
unfrozen_send g p c = max (next_slot g (node_of g p) (end_in c.known p)) (get_or c.free (node_of g p) 0)

-- when the item x of p is sent in the course c, not before its frozen time
abbrev pub send_at : Graph → List (Option ℕ) → ℕ → ℕ → ProgressState → ℕ
send_at g frozen p x c = max (unfrozen_send g p c) (frozen_in frozen x)

-- the course c once the item x of p is sent: it has its time, and the slots of the node are free a round later
abbrev pub course_sent : Graph → List (Option ℕ) → ℕ → ℕ → ProgressState → ProgressState
course_sent g frozen p x c = record {
  known = record c.known { times = slice_set c.known.times x (Some (send_at g frozen p x c)) };
  ready = c.ready;
  free = slice_set c.free (node_of g p) (send_at g frozen p x c + round g);
}

-- the item at a place in the queue of a process
abbrev pub queued : Graph → ℕ → ℕ → ℕ
queued g p at = get_or (queue_of g p) at 0

-- the frozen items from processes before the place i have their frozen times, and each course of each track has its latest
-- times before i
pub record AreLanesBefore (setting : Setting) (tracks : List (List Bool)) (i : ℕ) (frozen : List (Option ℕ))
    (lanes : List (List ProgressState)) : Type 0 where
  -- the frozen items from processes before the place have their frozen times
  pub settled : AreSettledOf setting.problem.now setting.order.now
      (IsEarlier setting.problem.now setting.order.now i) frozen
  -- each course of each track has its latest times before the place
  pub known : AreLanes setting.problem.now (IsBefore setting frozen i) tracks lanes

-- in each course of each track in which p is active p has sent the first k of its items; these, the start of p and the items
-- from earlier processes have their frozen times, if they are frozen
pub record AreSending (setting : Setting) (tracks : List (List Bool)) (p k : ℕ) (frozen : List (Option ℕ))
    (lanes : List (List ProgressState)) : Type 0 where
  -- the frozen items from earlier processes, the start of p and its first k items have their frozen times
  pub settled : AreSettledOf setting.problem.now setting.order.now
      (IsDone setting.problem.now setting.order.now p k) frozen
  -- in each course of each track p has sent its first k items, if it is active
  pub known : AreLanes setting.problem.now (HasSentTo setting frozen p k k) tracks lanes

-- from `frozen_old` to `frozen_new` no frozen time but that of the item x is changed
pub record IsSettledBy (x : ℕ) (frozen_old frozen_new : List (Option ℕ)) : Type 0 where
  -- any other item has the frozen time that it had, or none as before
  pub others : (y : ℕ) → (y ≡ x → ⊥) → get_or frozen_new y None ≡ get_or frozen_old y None
  -- the list is as long as before
  pub count : length frozen_new ≡ length frozen_old

-- the greatest end in a course, or 0 if there is none
abbrev pub finish_of : Graph → ProgressState → ℕ
finish_of g c = greatest (map (λ p. end_in c.known p) (numbers_below (process_count g)))

-- how far an end in a course is past its due at most, or 0 if none is
abbrev pub excess_of_course : Graph → ProgressState → ℕ
excess_of_course g c = greatest (map (λ p. end_in c.known p - due g p) (numbers_below (process_count g)))

-- a lane in which nothing is known, and all nodes are ready and their slots free at 0
abbrev pub no_lane : Graph → List ProgressState
no_lane g = replicate (g.faults + 1)
    (record { known = no_times g; ready = replicate (length g.nodes) 0; free = replicate (length g.nodes) 0 })
