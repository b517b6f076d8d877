-- Trees with too many leaves: what such a tree tells, and where along an order it is made. `Large` in a name says that
-- a tree has more leaves than there may be; leaves are counted only if there is an item to name.
use Rattle.std.specs.Prelude.{ℕ, ◌+◌, ◌≡◌, ◌<◌, ◌⊎◌, false, true, List, [], ◌∷◌, Option, Some, Contains, length}
use Rattle.cpg_base.specs.Graph.{Graph, process_at, process_count, item_count, node_of, inputs, is_frozen, is_message}
use Rattle.cpg_base.specs.Order.{place}
use Rattle.cpg_base.specs.declared.activation.Activation.{Activation}
use Rattle.cpg_bus.specs.Plan.{queue_of}
use Rattle.cpg_order.specs.Guard.{Guard, Leaf, Test}
use Rattle.cpg_rules.specs.Guards.{Guards, AreGuardsOf, tree_of}
use Rattle.cpg_run.specs.Built.{ShowsBuildFault}
use Rattle.cpg_run.specs.declared.built.BuildFault.{BuildFault}
use Rattle.cpg_tree.specs.Read.{later_by}
use Rattle.cpg_tree.specs.Tree.{TreeState}
use Rattle.cpg_expand.specs.Descent.{AreLeaves}
use Rattle.cpg_expand.specs.Ending.{IsEndTree}
use Rattle.cpg_expand.specs.Forest.{ForestState, input_delay, input_tree, times_of}
use Rattle.cpg_expand.specs.Grown.{IsEarlier, IsGrown}
use Rattle.cpg_expand.specs.Guarded.{IsHeardTree, IsStartTree, WaitsForAll, awaited}
use Rattle.cpg_expand.specs.Later.{IsLatest}
use Rattle.cpg_expand.specs.Waited.{IsQueuedFor, IsWaitedFor}
use Rattle.cpg_expand.specs.Waiting.{IsWaitTree, free_of, ready_of}
use Rattle.cpg_expand.specs.declared.bounding.TheConstants.{MOST_LEAVES}

-- the tree has more leaves than a tree may have
abbrev pub IsLarge : {T : Type 0} → TreeState T → Type 0
IsLarge t = MOST_LEAVES < length t.paths

-- the fault is `TooWide` only if `wide` has an item and the cause `why` holds, and it names that item; `OutOfMemory`
-- needs no cause
abbrev pub ShowsLarge : Option ℕ → Type 0 → BuildFault → Type 0
ShowsLarge wide why fault = ShowsBuildFault (λ x. (wide ≡ Some x) × why) fault

-- ---- on the way to a start

-- On the way down a guard some tree has too many leaves: at a leaf one that `large` tells of, or at a test one to which
-- `fits` relates the part of the guard from that test on.
abbrev pub IsLargeDown : {T : Type 0} → (Activation → Type 0) → (Guard → TreeState T → Type 0) → Guard → Type 0
IsLargeDown large fits (Leaf a) = large a
IsLargeDown {T} large fits (Test c off on) =
    IsLargeDown large fits off ⊎ (IsLargeDown large fits on ⊎ ((t : TreeState T) × fits (Test c off on) t × IsLarge t))

-- some tree of when the node has heard all that a part of the guard tests has too many leaves
abbrev pub IsLargeHeard : Graph → ForestState → ℕ → Guard → Type 0
IsLargeHeard g f node guard = IsLargeDown (λ a. ⊥) (IsHeardTree g f node) guard

-- one of three trees has too many leaves: when the node is ready, when it has heard what a part of the guard tests, or
-- when both hold
abbrev pub IsLargeWait : Graph → ForestState → ℕ → Guard → Type 0
IsLargeWait g f node guard =
    IsLarge (ready_of g f node) ⊎
    (IsLargeHeard g f node guard ⊎ ((wait : TreeState ℕ) × IsWaitTree g f node guard wait × IsLarge wait))

-- The tree of when the wait is over and the first few of these inputs are there, at least one message among them, has
-- too many leaves. The inputs are taken one by one; those within the node add no tree, since they are there once it is
-- ready.
abbrev pub IsLargeWith : Graph → ForestState → TreeState ℕ → List ℕ → Type 0
IsLargeWith g f wait [] = ⊥
IsLargeWith g f wait (e ∷ es) = ((is_message g e ≡ false) × IsLargeWith g f wait es)
    ⊎ ((both : TreeState ℕ) × IsLatest g.faults wait (later_by (input_delay g e) (input_tree g f e)) both ×
    (IsLarge both ⊎ IsLargeWith g f both es))

-- A tree on the way to the starts has too many leaves. If the process waits for all inputs in every outcome, they are
-- taken once, before the guard; otherwise they are taken at each leaf, and starts are joined on the way up.
abbrev pub IsLargeStart : Graph → ForestState → TreeState ℕ → ℕ → List ℕ → Guard → Type 0
IsLargeStart g f wait release inputs guard = (AreLeaves WaitsForAll guard × IsLargeWith g f wait inputs)
    ⊎ IsLargeDown (λ a. IsLargeWith g f wait (awaited inputs a)) (IsStartTree g f wait release inputs) guard

-- `start`, the tree of process p's starts, has too many leaves, or the tree of its ends
abbrev pub IsLargeEnd : Graph → ℕ → TreeState (Option ℕ) → Type 0
IsLargeEnd g p start = IsLarge start ⊎ ((end : TreeState (Option ℕ)) × IsEndTree g p start end × IsLarge end)

-- with this wait, the tree of process p's starts has too many leaves, or that of its ends
abbrev pub IsLargeOf : Graph → ℕ → ForestState → Guard → TreeState ℕ → Type 0
IsLargeOf g p f guard wait =
    (start : TreeState (Option ℕ)) × IsStartTree g f wait (process_at g p).release (inputs g p) guard start ×
    IsLargeEnd g p start

-- The wait is made, and a tree that is made from it has too many leaves: one of the wait with inputs, or that of the
-- starts or the ends.
pub record IsLargeAfter (g : Graph) (p : ℕ) (f : ForestState) (guard : Guard) : Type 0 where
  -- the tree of when p's node is ready and has heard what the guard tests
  pub wait : TreeState ℕ
  pub waits : IsWaitTree g f (node_of g p) guard wait
  -- the large tree is on the way to the starts, or it is that of the starts or the ends
  pub large : IsLargeStart g f wait (process_at g p).release (inputs g p) guard ⊎ IsLargeOf g p f guard wait

-- process p isn't frozen, and a tree on the way to its start and its end has too many leaves: one of its wait, or one
-- after it
abbrev pub IsLargeThawed : Graph → ℕ → ForestState → Guard → Type 0
IsLargeThawed g p f guard = IsLargeWait g f (node_of g p) guard ⊎ IsLargeAfter g p f guard

-- Process p is frozen, and a tree of what it would wait for has too many leaves. Such a tree is made only if a later
-- process of its node, which isn't frozen, waits for that node.
abbrev pub IsLargeFrozen : Graph → List ℕ → ℕ → ForestState → Guard → Type 0
IsLargeFrozen g order p f guard =
    IsWaitedFor g order (place order p + 1) (node_of g p) × IsLargeWait g f (node_of g p) guard

-- a tree on the way to the start and the end of process p has too many leaves
abbrev pub IsLargeBegun : Graph → List ℕ → Guards → ℕ → ForestState → Type 0
IsLargeBegun g order guards p f =
    ((is_frozen g p ≡ false) × IsLargeThawed g p f (tree_of guards p)) ⊎
    ((is_frozen g p ≡ true) × IsLargeFrozen g order p f (tree_of guards p))

-- process p sends an item whose tree of times has too many leaves
pub record HasLargeSend (g : Graph) (p : ℕ) (f : ForestState) : Type 0 where
  -- the item
  pub item : ℕ
  -- the item is in p's queue
  pub sent : Contains (queue_of g p) item
  -- its tree has too many leaves
  pub large : IsLarge (times_of g f item)

-- an item that the node sends for a process at the place i or later waits for free slots, and their tree has too many
-- leaves
abbrev pub HasLargeFree : Graph → List ℕ → ℕ → ℕ → ForestState → Type 0
HasLargeFree g order i node f = IsQueuedFor g order i node × IsLarge (free_of g f node)

-- Process p has sent its items, and a tree that it leaves behind has too many leaves: that of an item it sends, or
-- that of when its node's slots are free for later items.
abbrev pub IsLargeLeft : Graph → List ℕ → ℕ → ForestState → Type 0
IsLargeLeft g order p f = HasLargeSend g p f ⊎ HasLargeFree g order (place order p + 1) (node_of g p) f

-- ---- along an order

-- The trees are grown up to the place i, and one has too many leaves: that of an item of an earlier process, that of
-- when a node's slots are free, or one on the way to the start and the end of the process at the place i.
abbrev pub IsLargeAt : Graph → List ℕ → Guards → ℕ → ForestState → Type 0
IsLargeAt g order guards i f = ((x : ℕ) × (x < item_count g) × IsEarlier g order i x × IsLarge (times_of g f x))
    ⊎ (((node : ℕ) × (node < length g.nodes) × HasLargeFree g order i node f)
    ⊎ ((p : ℕ) × (p < process_count g) × (place order p ≡ i) × IsLargeBegun g order guards p f))

-- somewhere along the order a tree has too many leaves
pub record HasLargeTree (g : Graph) (urgency order : List ℕ) : Type 0 where
  -- the guards of the graph
  pub guards : Guards
  pub are : AreGuardsOf g urgency guards
  -- a place of the order, with the frozen times and the trees that are found up to it
  pub reached : ℕ
  pub frozen : List (Option ℕ)
  pub forest : ForestState
  pub grown : IsGrown g order reached frozen forest
  -- the large tree is among them, or is made for the process at that place
  pub large : IsLargeAt g order guards reached forest
