-- The trees that are found process by process along an order, each of which tells a time in every scenario.
use Rattle.std.specs.Prelude.{ℕ, ◌≡◌, ◌==◌, List, [], Option, length, get_or, All, ◌<◌, if◌then◌else◌}
use Rattle.cpg_base.specs.Bus.{slot_length}
use Rattle.cpg_base.specs.Graph.{Graph, process_count, item_count, node_of, source, process_of, is_message}
use Rattle.cpg_base.specs.Graph.{message_item, broadcast_item, home}
use Rattle.cpg_tree.specs.Read.{later_by}
use Rattle.cpg_tree.specs.Tree.{TreeState}
use Rattle.cpg_tree.specs.GraphTrees.{IsTree, no_tree}
use Rattle.cpg_expand.specs.declared.forest.Ready.{Ready}
use Rattle.cpg_expand.specs.declared.forest.Ready.TheVariants.{After, At}

-- the trees that are found so far
pub record ForestState : Type 0 where
  -- for each item, when it starts or is sent; `None` where it doesn't
  pub times : List (TreeState (Option ℕ))
  -- for each process, when it ends; `None` where it isn't active
  pub ends : List (TreeState (Option ℕ))
  -- for each node, from when on it is ready for its next process, and from when on its slots are free
  pub ready : List Ready
  pub free : List (TreeState ℕ)
  -- the item that a fault names if a tree has too many leaves; with `None` leaves aren't counted
  pub wide : Option ℕ

-- what says when a node is ready is of the graph: one of its processes, or a tree over its scenarios
abbrev pub IsWait : Graph → Ready → Type 0
IsWait g (After q) = q < process_count g
IsWait g (At t) = IsTree g t

-- what says from when on a node is ready: the ends of a process (`After`), or a tree of its own (`At`)
abbrev pub ready_at : Graph → ForestState → ℕ → Ready
ready_at g f node = get_or f.ready node (At (no_tree g.faults))

-- the forest has a tree for each item, each process and each node of the graph
pub record HasTrees (g : Graph) (f : ForestState) : Type 0 where
  -- one for each item, each process and each node
  pub times : length f.times ≡ item_count g
  pub ends : length f.ends ≡ process_count g
  pub ready : length f.ready ≡ length g.nodes
  pub free : length f.free ≡ length g.nodes
  -- each is a tree over the graph's scenarios; `ready` may name a process instead
  pub all_times : All (IsTree g) f.times
  pub all_ends : All (IsTree g) f.ends
  pub all_ready : All (IsWait g) f.ready
  pub all_free : All (IsTree g) f.free
  -- if a node is ready after process q, then q is on that node
  pub own : (node q : ℕ) → node < length g.nodes → ready_at g f node ≡ After q → node_of g q ≡ node

-- the tree of the times of item x
abbrev pub times_of : Graph → ForestState → ℕ → TreeState (Option ℕ)
times_of g f x = get_or f.times x (no_tree g.faults)

-- the tree of the ends of process p
abbrev pub ends_of : Graph → ForestState → ℕ → TreeState (Option ℕ)
ends_of g f p = get_or f.ends p (no_tree g.faults)

-- the tree with the times of t as plain numbers: 0 where t has none
abbrev pub later_tree : TreeState (Option ℕ) → TreeState ℕ
later_tree t = later_by 0 t

-- the tree that says when a node is ready: the ends of process q, with 0 where it has none, or a tree of its own
abbrev pub ready_by : Graph → ForestState → Ready → TreeState ℕ
ready_by g f (After q) = later_tree (ends_of g f q)
ready_by g f (At t) = t

-- the tree of the times after which an input is there: those of its message, or the ends of its source within a node
abbrev pub input_tree : Graph → ForestState → ℕ → TreeState (Option ℕ)
input_tree g f e = if is_message g e then times_of g f (message_item g e) else ends_of g f (source g e)

-- how long after the time of its tree an input is there: the length of its frame, or 0 within a node
abbrev pub input_delay : Graph → ℕ → ℕ
input_delay g e = if is_message g e then slot_length g (home g (message_item g e)) else 0

-- the tree of the times after which a node has heard a condition: the ends of its process on that node, or else the
-- times of its broadcast
abbrev pub heard_tree : Graph → ForestState → ℕ → ℕ → TreeState (Option ℕ)
heard_tree g f node c = if node_of g (process_of g c) == node then ends_of g f (process_of g c)
    else times_of g f (broadcast_item g c)

-- how long after the time of its tree a condition is heard: the length of its frame, or 0 on its own node
abbrev pub heard_delay : Graph → ℕ → ℕ → ℕ
heard_delay g node c = if node_of g (process_of g c) == node then 0 else slot_length g (home g (broadcast_item g c))
