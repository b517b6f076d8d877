-- The processes of a node between two places of an order, and what their guards test.
use Rattle.std.specs.Prelude.{ℕ, ◌≡◌, ◌≤◌, ◌<◌, ◌&&◌, ◌⊎◌, Bool, true, List, length}
use Rattle.cpg_base.specs.Graph.{Graph, process_count, condition_count, node_of}
use Rattle.cpg_base.specs.Activity.{is_active}
use Rattle.cpg_base.specs.Order.{place}
use Rattle.cpg_base.specs.Scenario.{Scenario}
use Rattle.cpg_order.specs.Guard.{Guard, Leaf, Test}
use Rattle.cpg_expand.specs.Guarded.{is_tested}
use Rattle.cpg_rules.specs.Guards.{Guards, tree_of}
use Rattle.cpg_tree.specs.Space.{HasAtMostFaults}
use Rattle.cpg_tree.specs.Tree.{Path, TreeState, IsOnPath}

-- process q is on the node, and its place in the order is from `from` on and before `to`
pub record IsBetween (g : Graph) (order : List ℕ) (node from to q : ℕ) : Type 0 where
  -- it is a process of the graph
  pub within : q < process_count g
  -- it is on this node
  pub there : node_of g q ≡ node
  -- its place is at least `from` and less than `to`
  pub after : from ≤ place order q
  pub sooner : place order q < to

-- the guards and the order are those of this graph, by their counts
pub record AreAlong (g : Graph) (guards : Guards) (order : List ℕ) : Type 0 where
  -- a value of 32 bits has one bit for each condition
  pub few : condition_count g ≤ 32
  -- there is a guard for each process, and the guards have as many conditions as the graph
  pub trees : length guards.trees ≡ process_count g
  pub conditions : guards.conditions ≡ condition_count g
  -- the order has as many places as there are processes
  pub places : length order ≡ process_count g

-- whether every leaf of the guard is active, so that its process is active in every outcome
abbrev pub is_always : Guard → Bool
is_always (Leaf a) = is_active a
is_always (Test c off on) = is_always off && is_always on

-- Processes of the node before the place `from` needn't be looked at. Either there are none, since the place is 0, or
-- a process z at `from` or later, but before `to`, is always active: when z has ended, those before it have ended too,
-- and the node has heard what their guards test.
abbrev pub IsCut : Graph → List ℕ → Guards → ℕ → ℕ → ℕ → Type 0
IsCut g order guards node from to =
    (from ≡ 0) ⊎ ((z : ℕ) × IsBetween g order node from to z × (is_always (tree_of guards z) ≡ true))

-- Of the processes 0 .. k - 1, one is on the node, has its place from `from` on and before `to`, and its guard tests
-- condition c in the outcome o.
pub record IsAskedOf (g : Graph) (order : List ℕ) (guards : Guards) (node from to c k : ℕ)
    (o : List Bool) : Type 0 where
  -- the process, which is below k
  pub process : ℕ
  pub below : process < k
  -- it is on the node, between the two places
  pub between : IsBetween g order node from to process
  -- its guard tests c in the outcome o
  pub tested : is_tested (tree_of guards process) o c ≡ true

-- the tree t is true in just those scenarios in which the guard of one of the processes 0 .. k - 1, on the node and
-- between the two places, tests condition c (`IsAskedOf`)
abbrev pub IsAskedTree : Graph → List ℕ → Guards → ℕ → ℕ → ℕ → ℕ → ℕ → TreeState Bool → Type 0
IsAskedTree g order guards node from to c k t =
    (s : Scenario) → HasAtMostFaults g.faults s → (x : Path Bool) → IsOnPath t.paths s x →
    (x.1 ≡ true → IsAskedOf g order guards node from to c k s.values) ×
    (IsAskedOf g order guards node from to c k s.values → x.1 ≡ true)

-- t is true in just those scenarios of at most k faults in which both a and b are
abbrev pub IsBothTree : ℕ → TreeState Bool → TreeState Bool → TreeState Bool → Type 0
IsBothTree k a b t = (s : Scenario) → HasAtMostFaults k s → (x y z : Path Bool) → IsOnPath a.paths s x →
    IsOnPath b.paths s y → IsOnPath t.paths s z → z.1 ≡ (x.1 && y.1)
