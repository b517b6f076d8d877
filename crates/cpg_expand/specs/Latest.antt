-- The latest time that a frozen item would have in any scenario, found by looking at each thing that it waits for
-- alone.
use Rattle.std.specs.Prelude.{ℕ, ◌+◌, ◌≡◌, ◌≤◌, ◌<◌, ◌⊎◌, max, Bool, true, List, Option, Some, None, Contains}
use Rattle.cpg_base.specs.Graph.{Graph, condition_count, item_count, process_count, is_message}
use Rattle.cpg_base.specs.Bus.{round}
use Rattle.cpg_base.specs.Scenario.{Scenario, IsScenario}
use Rattle.cpg_bus.specs.Share.{ShareState}
use Rattle.cpg_rules.specs.Guards.{Guards}
use Rattle.cpg_tree_columns.specs.Greatest.{HasValueAt}
use Rattle.cpg_tree_columns.specs.Meeting.{HasWhere}
use Rattle.cpg_tree.specs.Tree.{TreeState, HasOnePathEach, IsConstant}
use Rattle.cpg_expand.specs.Earlier.{IsBetween, IsAskedOf}
use Rattle.cpg_expand.specs.Forest.{ForestState, ends_of, times_of, heard_tree, heard_delay, input_tree, input_delay}
use Rattle.cpg_tree_columns.specs.Tops.{IsTop, IsTopAt}
use Rattle.cpg_tree_times.specs.Values.{slot_at}
use Rattle.cpg_tree.specs.Later.{time_later}
use Rattle.cpg_expand.specs.Waited.{stands_before}

-- ---- starts

-- the greater of `latest` and a time with its delay; `latest` if there is no time
abbrev pub or_later : ℕ → ℕ → Option ℕ → ℕ
or_later latest delay None = latest
or_later latest delay (Some time) = max latest (time_later delay (Some time))

-- in scenario s `wanted` is true and the tree has a time, and n is that time with the delay
pub record HasLater (tree : TreeState (Option ℕ)) (wanted : TreeState Bool) (delay n : ℕ) (s : Scenario) : Type 0 where
  -- the time, and that the tree has it in s, where `wanted` is true
  pub time : ℕ
  pub has : HasWhere tree wanted time s
  -- n is that time with the delay
  pub is : n ≡ time_later delay (Some time)

-- In scenario s a process that is active there (`active`) waits for process q, which is on the node between the places
-- `from` and `to`, and n is q's end.
pub record HasEnded (g : Graph) (order : List ℕ) (f : ForestState) (active : TreeState Bool) (node from to q n : ℕ)
    (s : Scenario) : Type 0 where
  -- q is on the node, at `from` or later and before `to`
  pub between : IsBetween g order node from to q
  -- q ends at n in s, and `active` is true there
  pub there : HasLater (ends_of g f q) active 0 n s

-- in scenario s one of the processes 0 .. k - 1 that is on the node between the two places ends at n (`HasEnded`)
pub record HasEndedOf (g : Graph) (order : List ℕ) (f : ForestState) (active : TreeState Bool) (node from to k n : ℕ)
    (s : Scenario) : Type 0 where
  -- the process, which ends at n
  pub process : ℕ
  pub below : process < k
  pub there : HasEnded g order f active node from to process n s

-- In scenario s a process that is active there (`active`) waits until the node has heard condition c, which the guard
-- of a process on the node between the two places tests, and n is when the node has heard it.
pub record HasHeard (g : Graph) (order : List ℕ) (guards : Guards) (f : ForestState) (active : TreeState Bool)
    (node from to c n : ℕ)
    (s : Scenario) : Type 0 where
  -- the guard of one of those processes tests c in the outcome of s
  pub asked : IsAskedOf g order guards node from to c (process_count g) s.values
  -- `active` is true in s
  pub acts : HasValueAt active.paths true s
  -- n is the time of the tree by which the node hears c, with the delay of that
  pub time : ℕ
  pub has : HasValueAt (heard_tree g f node c).paths (Some time) s
  pub is : n ≡ time_later (heard_delay g node c) (Some time)

-- in scenario s the node has heard at n one of the conditions 0 .. k - 1 that such a guard tests (`HasHeard`)
pub record HasHeardOf (g : Graph) (order : List ℕ) (guards : Guards) (f : ForestState) (active : TreeState Bool)
    (node from to k n : ℕ)
    (s : Scenario) : Type 0 where
  -- the condition, which the node has heard at n
  pub condition : ℕ
  pub below : condition < k
  pub there : HasHeard g order guards f active node from to condition n s

-- In scenario s a process that is active there (`active`) waits for its input e from another node, and n is when the
-- frame of e is there.
pub record HasInput (g : Graph) (f : ForestState) (active : TreeState Bool) (e n : ℕ) (s : Scenario) : Type 0 where
  -- e is a message; an input within the node is there once its source has ended, so nothing is asked of it
  pub message : is_message g e ≡ true
  -- the time at which the frame is sent in s, where `active` is true
  pub time : ℕ
  pub has : HasWhere (input_tree g f e) active time s
  -- n is the end of the frame's slot
  pub is : n ≡ time_later (input_delay g e) (Some time)

-- in scenario s the frame of one of the inputs `edges` is there at n (`HasInput`)
pub record HasInputOf (g : Graph) (f : ForestState) (active : TreeState Bool) (edges : List ℕ) (n : ℕ)
    (s : Scenario) : Type 0 where
  -- the edge, whose frame is there at n
  pub edge : ℕ
  pub of : Contains edges edge
  pub there : HasInput g f active edge n s

-- `latest` is `floor`, raised just as far as scenarios ask: `has n s` says that scenario s asks for the time n.
pub record IsRaised (g : Graph) (has : ℕ → Scenario → Type 0) (floor latest : ℕ) : Type 0 where
  -- it doesn't become less
  pub from : floor ≤ latest
  -- no scenario asks for more
  pub above : (n : ℕ) (s : Scenario) → IsScenario g s → has n s → n ≤ latest
  -- it stays, or some scenario asks for just that
  pub found : (latest ≡ floor) ⊎ ((s : Scenario) × IsScenario g s × has latest s)

-- `latest` is the greatest of the times of the tree `ready`, of the ends of the node's processes from `from` on and
-- before `to`, of when the node hears each condition that the guards of these and of the process at `to` test, and of
-- when the inputs `edges` from other nodes are there. Only scenarios in which `active` is true count.
pub record IsLatestAt (g : Graph) (order : List ℕ) (guards : Guards) (f : ForestState) (node from to : ℕ)
    (ready : TreeState (Option ℕ))
    (edges : List ℕ) (active : TreeState Bool) (latest : ℕ) : Type 0 where
  -- the greatest time that `ready` has where `active` is true; for a start that tree has the release everywhere
  pub released : ℕ
  pub releases : IsTopAt g (HasWhere ready active) released
  -- raised to the ends of the node's processes between `from` and `to`
  pub ended : ℕ
  pub ends : IsRaised g (HasEndedOf g order f active node from to (process_count g)) released ended
  -- raised to when the node has heard what the guards of these and of the process at `to` test
  pub heard : ℕ
  pub hears : IsRaised g (HasHeardOf g order guards f active node from (to + 1) (condition_count g)) ended heard
  -- raised to when the inputs from other nodes are there
  pub raised : IsRaised g (HasInputOf g f active edges) heard latest

-- the option is the greatest of the times that the process at the place `to` waits for in a scenario (`IsLatestAt`),
-- and `None` if `ready` has no time where `active` is true
abbrev pub IsLatestOf : Graph → List ℕ → Guards → ForestState → ℕ → ℕ → ℕ → TreeState (Option ℕ) → List ℕ →
    TreeState Bool → Option ℕ → Type 0
IsLatestOf g order guards f node from to ready edges active None = IsTop g (HasWhere ready active) None
IsLatestOf g order guards f node from to ready edges active (Some latest) =
    IsLatestAt g order guards f node from to ready edges active latest

-- `latest` is the latest start of the process at the place `to`, with this release and these inputs; `None` if the
-- process is never active (`active`)
pub record IsLatestStart (g : Graph) (order : List ℕ) (guards : Guards) (f : ForestState) (node from to release : ℕ)
    (edges : List ℕ)
    (active : TreeState Bool) (latest : Option ℕ) : Type 0 where
  -- the tree that has the release in every scenario
  pub ready : TreeState (Option ℕ)
  pub each : HasOnePathEach g.faults ready.paths
  pub at : IsConstant (Some release) g.faults ready
  -- `latest` is the latest time of all that the start waits for
  pub is : IsLatestOf g order guards f node from to ready edges active latest

-- ---- sends

-- In scenario s item x is sent (`goes`), item y stands before it in the node's queue and is sent too, and n is a round
-- after y. So x isn't sent before n.
pub record HasQueued (g : Graph) (order : List ℕ) (f : ForestState) (goes : TreeState Bool) (x y n : ℕ)
    (s : Scenario) : Type 0 where
  -- y stands before x in the queue
  pub before : stands_before g order y x ≡ true
  -- y is sent in s, where `goes` is true, and n is a round after that
  pub there : HasLater (times_of g f y) goes (round g) n s

-- in scenario s one of the items 0 .. k - 1 that is before x in the queue keeps x from going before n (`HasQueued`)
pub record HasQueuedOf (g : Graph) (order : List ℕ) (f : ForestState) (goes : TreeState Bool) (x k n : ℕ)
    (s : Scenario) : Type 0 where
  -- the item, which is sent a round before n
  pub item : ℕ
  pub below : item < k
  pub there : HasQueued g order f goes x item n s

-- `latest` is the first slot of `share` from the greatest end of x's producer on, or a round after an item before x in
-- the queue, whichever is later. `goes` says where x goes, and `end` has the ends of its producer.
pub record IsSlotAt (g : Graph) (order : List ℕ) (f : ForestState) (share : ShareState) (goes : TreeState Bool)
    (end : TreeState (Option ℕ))
    (x latest : ℕ) : Type 0 where
  -- the greatest end of x's producer over the scenarios in which x is sent
  pub last : ℕ
  pub ends : IsTopAt g (HasWhere end goes) last
  -- the first slot from there on, raised to a round after each item before x in the queue
  pub raised : IsRaised g (HasQueuedOf g order f goes x (item_count g)) (slot_at share (Some last)) latest

-- the option is the latest time at which item x would be sent in any scenario, in the slots of `share`; `None` if it
-- never is. `goes` says where x goes, and `end` has the ends of its producer.
abbrev pub IsLatestSend : Graph → List ℕ → ForestState → ShareState → TreeState Bool → TreeState (Option ℕ) → ℕ →
    Option ℕ → Type 0
IsLatestSend g order f share goes end x None = IsTop g (HasWhere end goes) None
IsLatestSend g order f share goes end x (Some latest) = IsSlotAt g order f share goes end x latest
