-- The laws on the latest times with n faults: no run of the track with at most n faults is later, and for each of them some
-- such run is as late.
use Rattle.std.specs.Prelude.{ℕ, ◌≡◌, ◌≤◌, ◌<◌, Bool, List, [], Option, sum, length}
use Rattle.cpg_base.specs.Graph.{Graph, process_count, condition_count, item_count}
use Rattle.cpg_base.specs.Scenario.{Scenario, IsScenario}
use Rattle.cpg_order.specs.Urgency.{IsTopological, IsUrgencyOrder}
use Rattle.cpg_run.specs.Finish.{excess_in_run}
use Rattle.cpg_run.specs.Frozen.{AreFrozenTimes}
use Rattle.cpg_run.specs.Run.{Times, IsRun, time_in, end_in, unfrozen_time}
use Rattle.cpg_latest.specs.Latest.{AreLatest, with_faults}
use Rattle.cpg_latest.specs.Tracks.{AreLatestOf, AreLatestFrozen, latest_finish, latest_excess}

-- no item, and no end, is later in the times t than in u, nor would an item be if it were not frozen
pub record IsNoLater (g : Graph) (order : List ℕ) (s : Scenario) (t u : Times) : Type 0 where
  -- the time of each item
  pub items : (x : ℕ) → x < item_count g → time_in t x ≤ time_in u x
  -- the time that each item would have if it were not frozen
  pub unfrozen : (x : ℕ) → x < item_count g → unfrozen_time g order s t x ≤ unfrozen_time g order s u x
  -- the end of each process
  pub ends : (p : ℕ) → p < process_count g → end_in t p ≤ end_in u p

-- a run with at most n faults is no later than the latest times of its outcome with n faults
abbrev pub RunsAreNoLater : Type 0
RunsAreNoLater =
    (g : Graph) (order : List ℕ) (frozen : List (Option ℕ)) (s : Scenario) (t : Times) (late : ℕ → Times) (n : ℕ) →
    IsTopological g order →
    IsScenario g s → IsRun g order frozen s t → AreLatest g order frozen s.values late → sum s.faults ≤ n →
    n ≤ g.faults → IsNoLater g order s t (late n)

-- in some run of the outcome with at most n faults the number `of` is at least v
pub record IsReached (g : Graph) (order : List ℕ) (frozen : List (Option ℕ)) (values : List Bool) (n : ℕ)
    (of : Times → ℕ) (v : ℕ) : Type 0 where
  -- the fault counts of the run's scenario
  pub faults : List ℕ
  -- with them the outcome makes a scenario of the graph
  pub lawful : IsScenario g (with_faults values faults)
  -- no more than n faults in all
  pub few : sum faults ≤ n
  -- the times of a run of this scenario
  pub times : Times
  pub run : IsRun g order frozen (with_faults values faults) times
  -- the number is at least v there
  pub is : v ≤ of times

-- each latest time of an outcome with n faults is reached in some run of it with at most n faults
pub record AreReached (g : Graph) (order : List ℕ) (frozen : List (Option ℕ)) (values : List Bool) (late : ℕ → Times)
    (n : ℕ) : Type 0 where
  -- the time of each item
  pub items : (x : ℕ) → x < item_count g → IsReached g order frozen values n (λ t. time_in t x) (time_in (late n) x)
  -- the time that each item would have if it were not frozen
  pub unfrozen : (x : ℕ) → x < item_count g →
      IsReached g order frozen values n (λ t. unfrozen_time g order (with_faults values []) t x)
      (unfrozen_time g order (with_faults values []) (late n) x)
  -- the end of each process
  pub ends : (p : ℕ) → p < process_count g → IsReached g order frozen values n (λ t. end_in t p) (end_in (late n) p)

-- the latest times of an outcome with n faults are all reached, in runs of it with at most n faults
abbrev pub LatestAreReached : Type 0
LatestAreReached =
    (g : Graph) (order : List ℕ) (frozen : List (Option ℕ)) (values : List Bool) (late : ℕ → Times) (n : ℕ) →
    IsTopological g order →
    length values ≡ condition_count g → AreLatest g order frozen values late → n ≤ g.faults →
    AreReached g order frozen values late n

-- ---- of all tracks

-- the frozen times that the latest times of all tracks give are those of the graph; `lates i n` are the latest times of track
-- i with n faults
abbrev pub LatestAreFrozen : Type 0
LatestAreFrozen = (g : Graph) (urgency order : List ℕ) (frozen : List (Option ℕ)) (tracks : List (List Bool))
    (lates : ℕ → ℕ → Times) →
    IsUrgencyOrder g urgency → IsTopological g urgency → IsTopological g order →
    AreLatestOf g order frozen tracks lates →
    AreLatestFrozen g order tracks lates frozen → AreFrozenTimes g order frozen

-- `v` is the greatest value of the number `of` over all runs under an order and these frozen times
pub record IsGreatest (g : Graph) (order : List ℕ) (frozen : List (Option ℕ)) (of : Times → ℕ) (v : ℕ) : Type 0 where
  -- no run has a greater one
  pub above : (s : Scenario) (t : Times) → IsScenario g s → IsRun g order frozen s t → of t ≤ v
  -- some run has it
  pub reached : (s : Scenario) × (t : Times) × IsScenario g s × IsRun g order frozen s t × (of t ≡ v)

-- these are the greatest excess and the greatest finish of all runs under an order and these frozen times
pub record HasGreatest (g : Graph) (order : List ℕ) (frozen : List (Option ℕ)) (excess worst : ℕ) : Type 0 where
  -- no run has a greater excess, and some run has this one; so it is for the finish
  pub is_excess : IsGreatest g order frozen (excess_in_run g) excess
  pub is_worst : IsGreatest g order frozen (λ t. t.finish) worst

-- the greatest excess and the greatest finish of all runs under an order and frozen times are those of the latest times of all
-- tracks; `lates i n` are those of track i with n faults
abbrev pub LatestAreGreatest : Type 0
LatestAreGreatest = (g : Graph) (urgency order : List ℕ) (frozen : List (Option ℕ)) (tracks : List (List Bool))
    (lates : ℕ → ℕ → Times) →
    IsUrgencyOrder g urgency → IsTopological g urgency → IsTopological g order →
    AreLatestOf g order frozen tracks lates →
    HasGreatest g order frozen (latest_excess g tracks lates) (latest_finish g tracks lates)

-- these are the greatest excess and the greatest finish of all runs under an order, with its frozen times
pub record HasFigures (g : Graph) (order : List ℕ) (excess worst : ℕ) : Type 0 where
  -- the frozen times of the order
  pub frozen : List (Option ℕ)
  -- they are those of the graph
  pub times : AreFrozenTimes g order frozen
  -- with them, no excess and no finish of a run is greater than these, which some runs have
  pub greatest : HasGreatest g order frozen excess worst
