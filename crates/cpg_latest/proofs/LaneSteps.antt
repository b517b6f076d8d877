-- All courses of a track, and all tracks, go on together.
use Rattle.std.proofs.Common.{ℕ, ◌+◌, ◌^◌, ◌<◌, ◌≡◌, Bool, true, List, length, get_or, Option, None, arith, refl, sym}
use Rattle.std.proofs.Common.{◌∙◌}
use Rattle.cpg_base.specs.Activity.{active, item_active}
use Rattle.cpg_base.specs.Graph.{Graph, process_count, item_count, condition_count, item_at, node_of}
use Rattle.cpg_bus.specs.Plan.{queue_of}
use Rattle.cpg_order.specs.Urgency.{IsTopological}
use Rattle.cpg_run.specs.Progress.{ProgressState}
use Rattle.cpg_latest.specs.Course.{AreHalf, AreLanes, IsCourse, IsDone, IsLane, IsSending}
use Rattle.cpg_latest.specs.Tracks.{track_at}
use Rattle.cpg_base.specs.Limits.{IsWithinLimits}
use Rattle.cpg_base.specs.Bus.{round}
use Rattle.cpg_run.specs.Known.{AreEarly}
use Rattle.cpg_run.specs.Run.{end_in}
use Rattle.cpg_latest.specs.Lanes.{course_sent, queued, send_at}
use Rattle.cpg_latest.proofs.CourseSteps.{sends, sends_small}
use Rattle.cpg_latest.proofs.Settling.{send_one}
use Rattle.cpg_latest.proofs.Halves.{half_first, half_all}
use Rattle.cpg_latest.proofs.Settling.{for_more}

-- if each course with fact P has fact Q, a lane of courses with P is one of courses with Q
pub lane_map : (g : Graph) (P Q : ℕ → ProgressState → Type 0) (courses : List ProgressState) →
    ((n : ℕ) (c : ProgressState) → n < g.faults + 1 → P n c → Q n c) →
    IsLane g P courses →
    IsLane g Q courses
lane_map g P Q courses f lane =
    record { count = lane.count; each = λ n d l. f n (get_or courses n d) l (lane.each n d l) }

-- if each course with fact P has fact Q, lanes of courses with P are lanes of courses with Q, for all tracks
pub lanes_map : (g : Graph) (P Q : List Bool → ℕ → ProgressState → Type 0) (tracks : List (List Bool))
    (lanes : List (List ProgressState))
    → ((values : List Bool) (n : ℕ) (c : ProgressState) → n < g.faults + 1 → P values n c → Q values n c) →
    AreLanes g P tracks lanes → AreLanes g Q tracks lanes
lanes_map g P Q tracks lanes f are = record {
  count = are.count;
  each = λ i d l. lane_map g (P (track_at tracks i)) (Q (track_at tracks i)) (get_or lanes i d) (f (track_at tracks i))
      (are.each i d l);
}

-- given: all that is done by `Done` is done by `More`, and from `frozen` to `new` the frozen times of what is done stay
module _ (g : Graph) (order : List ℕ) (Done More : ℕ → Type 0) (frozen new : List (Option ℕ))
    (grows : (y : ℕ) → y < item_count g → Done y → More y)
    (same : (y : ℕ) → y < item_count g → Done y → get_or new y None ≡ get_or frozen y None) where
  -- a course that has the latest times whatever follows has them if more items are done
  pub course_more : (values : List Bool) (i n : ℕ) (c : ProgressState) → IsCourse g order Done frozen values i n c →
      IsCourse g order More new values i n c
  course_more values i n c course =
      record { places = course.places; at = for_more g order Done More frozen new values _ grows same course.at }

  -- a course in which a process has sent some of its items remains such a course if more items are done
  pub sending_more : (values : List Bool) (p k n : ℕ) (c : ProgressState) →
      IsSending g order Done frozen values p k n c →
      IsSending g order More new values p k n c
  sending_more values p k n c sending = record {
    places = sending.places;
    acts = λ on. for_more g order Done More frozen new values _ grows same (sending.acts on);
    idle = λ off. for_more g order Done More frozen new values _ grows same (sending.idle off);
  }

-- each course of the lane of the i-th track has the fact P
abbrev pub LaneHas : Graph → (List Bool → ℕ → ProgressState → Type 0) → List (List Bool) → ℕ → List ProgressState →
    Type 0
LaneHas g P tracks i lane = IsLane g (P (track_at tracks i)) lane

-- given: the facts P and Q, which courses have before and after a loop over the lanes, and the number of tracks (`count`)
module _ (g : Graph) (P Q : List Bool → ℕ → ProgressState → Type 0) (tracks : List (List Bool)) (count : ℕ)
    (long : length tracks ≡ count) where
  -- before the first track all lanes have the old fact
  pub lanes_start : (lanes : List (List ProgressState)) → AreLanes g P tracks lanes →
      AreHalf (LaneHas g P tracks) (LaneHas g Q tracks) 0 count lanes
  lanes_start lanes are = half_first (LaneHas g P tracks) (LaneHas g Q tracks) count lanes (are.count ∙ long)
      (λ j d l. are.each j d (omega (arith, l, long)))

  -- after the last track all lanes have the new fact
  pub lanes_end : (m : ℕ) (lanes : List (List ProgressState)) →
      AreHalf (LaneHas g P tracks) (LaneHas g Q tracks) m count lanes → m ≡ count →
      AreLanes g Q tracks lanes
  lanes_end m lanes half is = record {
    count = half.count_is ∙ sym long;
    each =
        λ i d l. half_all (LaneHas g P tracks) (LaneHas g Q tracks) count m lanes half is i d (omega (arith, l, long));
  }

-- given: a course c with n faults, in which p has sent the items before the place `at` of its queue (`s`), and the item
-- at that place, whose frozen time is set if it has one
-- `acts`, `sent`: p and this item are active in the outcome
module _ (g : Graph) (order : List ℕ) (topological : IsTopological g order) (frozen : List (Option ℕ))
    (values : List Bool) (p : ℕ) (within : p < process_count g) (on : node_of g p < length g.nodes)
    (at : ℕ) (inside : at < length (queue_of g p))
    (n : ℕ) (few : n < g.faults + 1) (c : ProgressState)
    (s : IsSending g order (IsDone g order p (at + 1)) frozen values p at n c) (acts : active g values p ≡ true)
    (sent : item_active g values (item_at g (queued g p at)) ≡ true) where
  -- under early frozen times the end of the process and the time of the send are below 2 ^ 59
  pub item_small : IsWithinLimits g → length values ≡ condition_count g → AreEarly frozen →
      (end_in c.known p < 2 ^ 59) × (send_at g frozen p (queued g p at) c < 2 ^ 59)
  item_small limits long early = sends_small g order topological (IsDone g order p (at + 1))
      frozen values p within on n few
      at inside c s (send_one g order topological p within at inside) acts sent
      (send_at g frozen p (queued g p at) c) refl limits long early

  -- the course once the item is sent has sent one item more
  pub item_sent : IsSending g order (IsDone g order p (at + 1)) frozen values p (at + 1) n
      (course_sent g frozen p (queued g p at) c)
  item_sent = sends g order topological (IsDone g order p (at + 1)) frozen values p within on n few at inside c s
      (send_one g order topological p within at inside) acts sent
      (send_at g frozen p (queued g p at) c) refl
      (send_at g frozen p (queued g p at) c + round g) refl
