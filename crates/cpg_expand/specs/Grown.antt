-- What is kept along an order: the trees so far give each run under the frozen times so far, for any rows that hold
-- what the trees list.
use Rattle.std.specs.Prelude.{ℕ, ◌+◌, ◌≡◌, ◌≢◌, ◌<◌, ◌≤◌, ◌⊎◌, true, false, List, Option, Some, None, All, Contains}
use Rattle.std.specs.Prelude.{take, length, get_or}
use Rattle.std.specs.List.{flat_map}
use Rattle.cpg_base.specs.Graph.{Graph, process_count, item_count, node_of, is_frozen, is_sent, producer}
use Rattle.cpg_base.specs.Scenario.{Scenario, IsScenario}
use Rattle.cpg_order.specs.Urgency.{IsTopological}
use Rattle.cpg_base.specs.Order.{place}
use Rattle.cpg_bus.specs.Plan.{queue_of}
use Rattle.cpg_cube.specs.declared.column.Column.{Column}
use Rattle.cpg_reach.specs.Walked.{on_node}
use Rattle.cpg_run.specs.Run.{Times, IsRun}
use Rattle.cpg_run.specs.Frozen.{IsFrozenTime}
use Rattle.cpg_run.specs.Progress.{IsReady, IsFree}
use Rattle.cpg_run.specs.Carried.{row_at, carried, carried_at_end, passed, queued}
use Rattle.cpg_run.proofs.Rising.{AreLow}
use Rattle.cpg_tree.specs.Tree.{Path, TreeState, IsConstant}
use Rattle.cpg_expand.specs.Agreeing.{HasValueFrom}
use Rattle.cpg_expand.specs.Forest.{ForestState, HasTrees, times_of, ends_of}
use Rattle.cpg_expand.specs.Sent.{sent_before, IsFreeOnce}
use Rattle.cpg_expand.specs.Waited.{IsQueuedFor, IsWaitedFor}
use Rattle.cpg_expand.specs.Waiting.{ready_of, free_of}
use Rattle.cpg_expand.specs.declared.forest.Ready.{Ready}
use Rattle.cpg_expand.specs.declared.forest.Ready.TheVariants.{After, At}

-- The rows hold what the trees list: for each item that is sent by a process before the place i, the cube of each path
-- with a time is that of a column of the item's row.
pub record RowsHold (g : Graph) (order : List ℕ) (i : ℕ) (f : ForestState) (rows : List (List Column)) : Type 0 where
  -- `path.0` is the path's cube, `path.1` its value
  pub sends : (x : ℕ) → x < item_count g → process_count g ≤ x → place order (producer g x) < i →
      (path : Path (Option ℕ)) (time : ℕ) →
      Contains (times_of g f x).paths path → path.1 ≡ Some time →
      (c : Column) × Contains (row_at rows x) c × (c.cube ≡ path.0)

-- In scenario s, with its run t, the tree says when the node is ready for the place i, and its path says no more than
-- what the node carries on.
pub record IsReadyLine (g : Graph) (order : List ℕ) (rows : List (List Column)) (s : Scenario) (t : Times) (i node : ℕ)
    (tree : TreeState ℕ) : Type 0 where
  -- `time` is the first by which the node's active processes before the place i have ended and it has heard what
  -- decides any of them
  pub time : ℕ
  pub is : IsReady g order s t i node time
  -- the tree has this time, on a path that follows from what the node carries on from those processes
  pub has_value : HasValueFrom s (flat_map (passed g rows s) (on_node g order i node)) time tree

-- In scenario s, with its run t, the tree says when the node's slots are free for processes at the place i or later,
-- and its path says no more than what the node's items leave to those behind them.
pub record IsFreeLine (g : Graph) (order : List ℕ) (rows : List (List Column)) (s : Scenario) (t : Times) (i node : ℕ)
    (tree : TreeState ℕ) : Type 0 where
  -- `time` is a round after the last of what the node sends for processes before the place i, or 0 if it sends nothing
  pub time : ℕ
  pub is : IsFree g order s t i node time
  -- the tree has this time, on a path that follows from what those items leave to the ones behind them
  pub has_value : HasValueFrom s (flat_map (queued g order rows s) (sent_before g order i node)) time tree

-- In scenario s, with its run t, the trees give all times of processes before the place i. They say when nodes are
-- ready and slots are free there as far as something at the place i or later waits for it.
pub record Lines (g : Graph) (order : List ℕ) (rows : List (List Column)) (s : Scenario) (t : Times) (i : ℕ)
    (f : ForestState) : Type 0 where
  -- the times of items of earlier processes
  pub times : (x : ℕ) → x < item_count g → place order (producer g x) < i →
      HasValueFrom s (carried g order rows s x) (get_or t.times x None) (times_of g f x)
  -- the ends of earlier processes
  pub ends : (q : ℕ) → q < process_count g → place order q < i →
      HasValueFrom s (carried_at_end g order rows s q) (get_or t.ends q None) (ends_of g f q)
  -- when each node is ready, if a process at the place i or later waits for it
  pub ready : (node : ℕ) → node < length g.nodes → IsWaitedFor g order i node →
      IsReadyLine g order rows s t i node (ready_of g f node)
  -- when each node's slots are free, if an item of a process at the place i or later waits for them
  pub free : (node : ℕ) → node < length g.nodes → IsQueuedFor g order i node →
      IsFreeLine g order rows s t i node (free_of g f node)

-- item x is of a process before the place i: its start, or what it sends
abbrev pub IsEarlier : Graph → List ℕ → ℕ → ℕ → Type 0
IsEarlier g order i x = place order (producer g x) < i

-- item x is done once p has begun and sent the first k items of its queue: it is of an earlier process, it is the
-- start of p, or one of those k
abbrev pub IsDone : Graph → List ℕ → ℕ → ℕ → ℕ → Type 0
IsDone g order p k x = IsEarlier g order (place order p) x ⊎ ((x ≡ p) ⊎ Contains (take k (queue_of g p)) x)

-- In scenario s, with its run t, the trees give the times of what is done (`IsDone`), once p has begun and sent its
-- first k items.
pub record SendLines (g : Graph) (order : List ℕ) (rows : List (List Column)) (s : Scenario) (t : Times) (p k : ℕ)
    (f : ForestState) : Type 0 where
  -- the times of what is done
  pub times : (x : ℕ) → x < item_count g → IsDone g order p k x →
      HasValueFrom s (carried g order rows s x) (get_or t.times x None) (times_of g f x)
  -- the ends of p and of earlier processes
  pub ends : (q : ℕ) → q < process_count g → place order q < place order p + 1 →
      HasValueFrom s (carried_at_end g order rows s q) (get_or t.ends q None) (ends_of g f q)
  -- when nodes are ready behind p, if a later process waits for that
  pub ready : (node : ℕ) → node < length g.nodes → IsWaitedFor g order (place order p + 1) node →
      IsReadyLine g order rows s t (place order p + 1) node (ready_of g f node)
  -- the slots of p's own node are free behind what p has sent so far
  pub here : IsQueuedFor g order (place order p) (node_of g p) → IsFreeOnce g order rows s t p k f
  -- those of any other node are free as before
  pub free : (node : ℕ) → node < length g.nodes → node ≢ node_of g p → IsQueuedFor g order (place order p) node →
      IsFreeLine g order rows s t (place order p) node (free_of g f node)

-- the frozen times are settled for the items that are `Done`: the frozen ones of them have theirs, and no other item
-- has one
pub record AreSettledOf (g : Graph) (order : List ℕ) (Done : ℕ → Type 0) (frozen : List (Option ℕ)) : Type 0 where
  -- there is an entry for each item
  pub count : length frozen ≡ item_count g
  -- a frozen item that is done has the greatest time that it would have in any scenario
  pub each : (x : ℕ) → x < item_count g → is_frozen g x ≡ true → Done x → IsFrozenTime g order frozen x
  -- any other item has none: it isn't frozen, isn't done, or isn't an item
  pub others : (x : ℕ) → (x < item_count g → is_frozen g x ≡ true → Done x → ⊥) → get_or frozen x None ≡ None
  -- each frozen time is low, by a bound that grows with the place of its item in the order
  pub low : AreLow 0 g order frozen

-- what is never sent, as an edge within a node, has no time in any scenario
abbrev pub LeavesUnsent : Graph → ForestState → Type 0
LeavesUnsent g f =
    (x : ℕ) → process_count g ≤ x → x < item_count g → is_sent g x ≡ false → IsConstant None g.faults (times_of g f x)

-- the trees are grown up to the place i: those of the processes before it are made
pub record IsGrown (g : Graph) (order : List ℕ) (i : ℕ) (frozen : List (Option ℕ)) (f : ForestState) : Type 0 where
  -- there is a tree of the graph for each item, process and node
  pub trees : HasTrees g f
  -- edges within a node have no times
  pub unsent : LeavesUnsent g f
  -- the frozen items of earlier processes have their frozen times, and no other item has one
  pub settled : AreSettledOf g order (IsEarlier g order i) frozen
  -- In each scenario the trees give its run, whatever the rows are, if they hold what the trees list.
  pub lines : (rows : List (List Column)) → RowsHold g order i f rows → (s : Scenario) → IsScenario g s → (t : Times) →
      IsRun g order frozen s t → Lines g order rows s t i f

-- the trees are grown up to process p, which has begun and sent the first k items of its queue
pub record IsSending (g : Graph) (order : List ℕ) (p k : ℕ) (frozen : List (Option ℕ)) (f : ForestState) : Type 0 where
  -- there is a tree for each item, process and node; what is never sent has no times
  pub trees : HasTrees g f
  pub unsent : LeavesUnsent g f
  -- the frozen items that are done have their frozen times, and no other item has one
  pub settled : AreSettledOf g order (IsDone g order p k) frozen
  -- in each scenario the trees give the times of what is done
  pub lines : (rows : List (List Column)) → RowsHold g order (place order p) f rows → (s : Scenario) → IsScenario g s →
      (t : Times) →
      IsRun g order frozen s t → SendLines g order rows s t p k f

-- One step along the order, which is topological: if the trees `old` are grown up to the place of p, then the trees
-- `new` are grown up to the place behind it; so are the frozen times.
abbrev pub IsGrownBy : Graph → List ℕ → ℕ → List (Option ℕ) → ForestState → List (Option ℕ) → ForestState → Type 0
IsGrownBy g order p frozen_old old frozen_new new =
    IsTopological g order → IsGrown g order (place order p) frozen_old old → IsGrown g order (place order p + 1) frozen_new new

-- at the beginning a node waits for no process and is ready from time 0 on, in all scenarios of at most k faults
abbrev pub IsReadyFirst : ℕ → Ready → Type 0
IsReadyFirst k (After q) = ⊥
IsReadyFirst k (At t) = IsConstant 0 k t

-- f is the forest at the beginning of an order, before any process
pub record IsBareForest (g : Graph) (f : ForestState) : Type 0 where
  -- no item has a time in any scenario, and nodes and slots are free from time 0 on in all of them
  pub times : All (IsConstant None g.faults) f.times
  pub ready : All (IsReadyFirst g.faults) f.ready
  pub free : All (IsConstant 0 g.faults) f.free
