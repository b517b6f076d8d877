-- How far the latest times of a track have been found along an order: its courses, one for each number of faults. Those
-- with n faults are the latest times over all runs of the track with at most n faults (`Latest`).
use Rattle.std.specs.Prelude.{ℕ, ◌+◌, ◌≡◌, ◌≤◌, ◌<◌, ◌⊎◌, ◌==◌, if◌then◌else◌, max, true, false, Bool, List, [], Option}
use Rattle.std.specs.Prelude.{None, Contains, filter, length, map, get_or, take, slice_set, zero, suc}
use Rattle.cpg_base.specs.Graph.{Graph, item_count, node_of, condition_count, inputs, producer, is_frozen}
use Rattle.cpg_base.specs.Activity.{active, live}
use Rattle.cpg_base.specs.Duration.{duration}
use Rattle.cpg_base.specs.Order.{place}
use Rattle.cpg_bus.specs.Plan.{queue_of}
use Rattle.cpg_base.specs.Scenario.{Scenario}
use Rattle.cpg_order.specs.Guard.{deciding_along}
use Rattle.cpg_rules.specs.Admission.{IsAdmitted}
use Rattle.cpg_rules.specs.Guards.{Guards}
use Rattle.cpg_run.specs.Frozen.{IsFrozenTime}
use Rattle.cpg_run.specs.Progress.{HasPlaces, HasSent, IsAt, KeepsEnds, ProgressState}
use Rattle.cpg_run.specs.Most.{IsMost}
use Rattle.cpg_run.specs.Run.{Times, end_in, heard_there}
use Rattle.cpg_order.specs.Deciding.{decides}
use Rattle.cpg_run.proofs.Rising.{AreLow}
use Rattle.cpg_latest.specs.Latest.{AreLatest, with_faults, latest_end, fault_delay}
use Rattle.cpg_latest.specs.Tracks.{track_at}
use Rattle.cpg_latest.specs.declared.asking.Asked.{Asked}

-- the item x comes from a process before the place i
abbrev pub IsEarlier : Graph → List ℕ → ℕ → ℕ → Type 0
IsEarlier g order i x = place order (producer g x) < i

-- the item x comes from a process before p, is the start of p, or is one of the first k items that p sends
abbrev pub IsDone : Graph → List ℕ → ℕ → ℕ → ℕ → Type 0
IsDone g order p k x = IsEarlier g order (place order p) x ⊎ ((x ≡ p) ⊎ Contains (take k (queue_of g p)) x)

-- the frozen times `more` are those of `frozen` for each item that is done
abbrev pub GoesOn : Graph → (ℕ → Type 0) → List (Option ℕ) → List (Option ℕ) → Type 0
GoesOn g Done frozen more = (x : ℕ) → x < item_count g → Done x → get_or more x None ≡ get_or frozen x None

-- the latest times of an outcome have the fact P, whatever frozen times the items get that aren't done yet
abbrev pub ForLatest : Graph → List ℕ → (ℕ → Type 0) → List (Option ℕ) → List Bool → ((ℕ → Times) → Type 0) → Type 0
ForLatest g order Done frozen values P = (more : List (Option ℕ)) → GoesOn g Done frozen more → (late : ℕ → Times) →
    AreLatest g order more values late → P late

-- the course c has the latest times of an outcome with n faults before the place i, under any frozen times that are those of
-- `frozen` for each item that is Done
pub record IsCourse (g : Graph) (order : List ℕ) (Done : ℕ → Type 0) (frozen : List (Option ℕ)) (values : List Bool)
    (i n : ℕ) (c : ProgressState) : Type 0 where
  -- its lists have a place for each item, process and node
  pub places : HasPlaces g c.known c.ready c.free
  -- it has the latest times before the place, whatever frozen times later items get
  pub at : ForLatest g order Done frozen values
      (λ late. IsAt g order (with_faults values []) (late n) i c.known c.ready c.free)

-- in the course c the process p has begun and sent the first k of its items; t are the times that are found, and
-- s is their scenario
pub record HasGone (g : Graph) (order : List ℕ) (s : Scenario) (t : Times) (p k : ℕ) (c : ProgressState) : Type 0 where
  -- the times when p had begun, and sent nothing
  pub begun : Times
  -- from when on the slots of each node were free then
  pub frees : List ℕ
  -- p ends in these as in t
  pub ended : end_in begun p ≡ end_in t p
  -- nothing that p sends has a time in these
  pub none : (x : ℕ) → Contains (queue_of g p) x → get_or begun.times x None ≡ None
  -- the course has these times and those of the first k items of p, and says when the slots of its node are free
  pub sent : HasSent g order s t p k begun c.known (get_or c.free (node_of g p) 0)
  -- sending has changed no end, and the list of times is as long as before
  pub keeps : KeepsEnds begun c.known
  -- sending has changed from when slots are free for the node of p alone
  pub free : c.free ≡ slice_set frees (node_of g p) (get_or c.free (node_of g p) 0)
  -- whatever times `new` come of sending all items of p, they are all that is known before the next place
  pub next : (new : Times) (free : ℕ) → HasSent g order s t p (length (queue_of g p)) begun new free →
      KeepsEnds begun new →
      IsAt g order s t (place order p + 1) new c.ready (slice_set frees (node_of g p) free)

-- the process p has begun and sent the first k of its items in the course of an outcome with n faults, if it is active;
-- otherwise all is known before the next place
pub record IsSending (g : Graph) (order : List ℕ) (Done : ℕ → Type 0) (frozen : List (Option ℕ)) (values : List Bool)
    (p k n : ℕ) (c : ProgressState) : Type 0 where
  -- its lists have a place for each item, process and node
  pub places : HasPlaces g c.known c.ready c.free
  -- an active p has begun and sent these
  pub acts : active g values p ≡ true →
      ForLatest g order Done frozen values (λ late. HasGone g order (with_faults values []) (late n) p k c)
  -- an inactive p sends nothing
  pub idle : active g values p ≡ false →
      ForLatest g order Done frozen values
      (λ late. IsAt g order (with_faults values []) (late n) (place order p + 1) c.known c.ready c.free)

-- a lane: the courses of a track, one for each number of faults from none to all, each with the fact P
pub record IsLane (g : Graph) (P : ℕ → ProgressState → Type 0) (courses : List ProgressState) : Type 0 where
  -- there is a course for each number of faults, from none to all
  pub count : length courses ≡ g.faults + 1
  -- the n-th course is that with n faults; the default d is never used
  pub each : (n : ℕ) (d : ProgressState) → n < g.faults + 1 → P n (get_or courses n d)

-- one lane for each track, in their order, each course with the fact P of its outcome and its number of faults
pub record AreLanes (g : Graph) (P : List Bool → ℕ → ProgressState → Type 0) (tracks : List (List Bool))
    (lanes : List (List ProgressState)) : Type 0 where
  -- there is a lane for each track
  pub count : length lanes ≡ length tracks
  -- the i-th lane is that of the i-th track; the default d is never used
  pub each : (i : ℕ) (d : List ProgressState) → i < length tracks → IsLane g (P (track_at tracks i)) (get_or lanes i d)

-- the first m elements of a list have the fact New, and the others still have Old: a loop over it has come to m
pub record AreHalf {X : Type 0} (Old New : ℕ → X → Type 0) (m count : ℕ) (xs : List X) : Type 0 where
  -- there are `count` elements
  pub count_is : length xs ≡ count
  -- the first m have New; the default d of `get_or` isn't used, as j is below the length
  pub done : (j : ℕ) (d : X) → j < m → j < count → New j (get_or xs j d)
  -- the others have Old
  pub left : (j : ℕ) (d : X) → m ≤ j → j < count → Old j (get_or xs j d)

-- ---- what a track says of a process

-- the outcome of each scenario
abbrev pub outcomes_of : List Scenario → List (List Bool)
outcomes_of scenarios = map (λ s. s.values) scenarios

-- each scenario has a value for each condition
abbrev pub HaveValues : Graph → List Scenario → Type 0
HaveValues g scenarios =
    (i : ℕ) (d : Scenario) → i < length scenarios → length (get_or scenarios i d).values ≡ condition_count g

-- `a` is what an outcome says of the process p
pub record IsAsked (g : Graph) (guards : Guards) (p : ℕ) (a : Asked) : Type 0 where
  -- the outcome has a value for each condition
  pub long : length a.scenario.now.values ≡ condition_count g
  -- whether p is active
  pub acts : a.acts ≡ active g a.scenario.now.values p
  -- which conditions decide it, in the urgency order
  pub conditions : (urgency : List ℕ) → IsAdmitted g urgency guards →
      a.conditions.items ≡ deciding_along g urgency a.scenario.now.values p
  -- which of its inputs are live
  pub inputs : a.inputs.items ≡ filter (live g a.scenario.now.values) (inputs g p)

-- each of these is what an outcome says of the process p
abbrev pub AreAsked : Graph → Guards → ℕ → List Asked → Type 0
AreAsked g guards p asked = (i : ℕ) (d : Asked) → i < length asked → IsAsked g guards p (get_or asked i d)

-- the outcomes that were asked, in order
abbrev pub outcomes_asked : List Asked → List (List Bool)
outcomes_asked asked = map (λ a. a.scenario.now.values) asked

-- `ready` is when the node of p is ready for p in the course c: it was ready for what came before, and has heard each
-- condition that decides p
pub record IsReadyFor (g : Graph) (values : List Bool) (p : ℕ) (c : ProgressState) (ready : ℕ) : Type 0 where
  -- the latest time at which the node hears a condition that decides p, or 0 if none does
  pub heard : ℕ
  pub is_heard : IsMost (λ c. (c < condition_count g) × (decides g values p c ≡ true))
      (heard_there g c.known (node_of g p)) heard
  -- the later of this and of when the node was ready before
  pub is : ready ≡ max (get_or c.ready (node_of g p) 0) heard

-- ---- the ends of a process

-- the latest end of a process with one fault less than n, or 0 if n is 0
unfoldable pub last_end : Graph → (ℕ → Times) → ℕ → ℕ → ℕ
last_end g late zero p = 0
last_end g late (suc n) p = latest_end g late n p

-- The latest end of p with n faults, given the latest start with n faults and the latest end `last` with one less: the
-- process has no fault itself, or one more than in the execution that ended at `last`.
abbrev pub end_after : Graph → ℕ → ℕ → ℕ → ℕ → ℕ
end_after g p n start last = if n == 0 then start + duration g p 0 else max (start + duration g p 0) (last + fault_delay g p)

-- ---- frozen times along an order

-- each frozen item that is done has its frozen time, and no other item has one
pub record AreSettledOf (g : Graph) (order : List ℕ) (Done : ℕ → Type 0) (frozen : List (Option ℕ)) : Type 0 where
  -- there is a place for each item of the graph
  pub count : length frozen ≡ item_count g
  -- the frozen time of each frozen item that is done
  pub each : (x : ℕ) → x < item_count g → is_frozen g x ≡ true → Done x → IsFrozenTime g order frozen x
  -- an item that isn't frozen or isn't done, or that is no item of the graph, has none
  pub others : (x : ℕ) → (x < item_count g → is_frozen g x ≡ true → Done x → ⊥) → get_or frozen x None ≡ None
  -- the times are no later than their items could be, so sums of them don't overflow
  pub low : AreLow 0 g order frozen
