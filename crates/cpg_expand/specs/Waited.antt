-- Whether something later in the order waits until a node is ready or its slots are free; if nothing does, that tree
-- isn't needed.
use Rattle.std.specs.Prelude.{ℕ, ◌+◌, ◌≡◌, ◌==◌, ◌≤◌, ◌<◌, ◌&&◌, ◌||◌, nat_lt, Bool, true, false, List, Option}
use Rattle.cpg_base.specs.Graph.{Graph, process_count, item_count, item_at, node_of, home, producer, is_frozen, is_sent}
use Rattle.cpg_base.specs.Order.{place}
use Rattle.cpg_order.specs.Guard.{Guard}
use Rattle.cpg_order.specs.Queue.{rank_of_item}
use Rattle.cpg_tree.specs.Tree.{TreeState}
use Rattle.cpg_expand.specs.Ending.{IsReadyTree}
use Rattle.cpg_expand.specs.Forest.{ForestState}
use Rattle.cpg_expand.specs.Waiting.{IsWaitTree}

-- some process on the node stands at the place i or later and isn't frozen
pub record IsWaitedFor (g : Graph) (order : List ℕ) (i node : ℕ) : Type 0 where
  -- the process, one of the graph's, on this node
  pub other : ℕ
  pub within : other < process_count g
  pub there : node_of g other ≡ node
  -- it isn't before the place i, and it isn't frozen
  pub later : i ≤ place order other
  pub thawed : is_frozen g other ≡ false

-- the node sends some item that isn't frozen for a process at the place i or later
pub record IsQueuedFor (g : Graph) (order : List ℕ) (i node : ℕ) : Type 0 where
  -- the item, one of the graph's, which this node sends
  pub other : ℕ
  pub within : other < item_count g
  pub sent : is_sent g other ≡ true
  pub there : home g other ≡ node
  -- its producer isn't before the place i, and the item isn't frozen
  pub later : i ≤ place order (producer g other)
  pub thawed : is_frozen g other ≡ false

-- whether item y stands before item x in the queue of one node, which sends y: y's producer stands earlier in the
-- order, or both have one producer and y's rank is less (a broadcast's before a message's)
abbrev pub stands_before : Graph → List ℕ → ℕ → ℕ → Bool
stands_before g order y x = (is_sent g y && (home g y == home g x))
    && (nat_lt (place order (producer g y)) (place order (producer g x))
    || ((producer g y == producer g x) && nat_lt (rank_of_item (item_at g y)) (rank_of_item (item_at g x))))

-- t says when the node is ready after a process with this guard: at its end (`end`) where it is active (`chooser`), and
-- elsewhere when what it would wait for is there
pub record IsReadyOnce (g : Graph) (f : ForestState) (node : ℕ) (guard : Guard) (chooser : TreeState Bool)
    (end : TreeState (Option ℕ))
    (t : TreeState ℕ) : Type 0 where
  -- when the node is ready before it, and has heard what the guard tests
  pub wait : TreeState ℕ
  pub waits : IsWaitTree g f node guard wait
  -- the node is ready at the process's end where it is active, and when the wait is over elsewhere
  pub is : IsReadyTree g.faults chooser end wait t

-- t says when p's node is ready after p, provided that a later process on the node, which isn't frozen, waits for it; f
-- is the forest before p, `chooser` says where p is active, and `end` has its ends
abbrev pub IsReadyIfWaited : Graph → List ℕ → ForestState → ℕ → Guard → TreeState Bool → TreeState (Option ℕ) →
    TreeState ℕ → Type 0
IsReadyIfWaited g order f p guard chooser end t =
    IsWaitedFor g order (place order p + 1) (node_of g p) → IsReadyOnce g f (node_of g p) guard chooser end t
