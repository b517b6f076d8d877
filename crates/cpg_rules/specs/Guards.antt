-- The guards of a graph, as the code keeps them: a tree for each process, and for each edge the test for when it is
-- live.
use Rattle.std.specs.Prelude.{ℕ, ◌≡◌, ◌<◌, Bool, true, false, ◌&&◌, List, Option, Some, None, All, IfSome, get_or}
use Rattle.std.specs.Prelude.{length, map}
use Rattle.cpg_base.specs.declared.activation.Activation.TheVariants.{Inactive}
use Rattle.cpg_base.specs.Numbers.{numbers_below, same_bool}
use Rattle.cpg_base.specs.Graph.{Graph, process_count, edge_count, condition_count, condition_of, edge_at, source}
use Rattle.cpg_base.specs.Activity.{is_active}
use Rattle.cpg_order.specs.Guard.{Guard, Leaf, outcome_at, IsGuardOf}
use Rattle.cpg_rules.specs.declared.edges.ValueTest.{ValueTest}
use Rattle.cpg_rules.specs.declared.edges.EdgeGuard.{EdgeGuard}
use Rattle.cpg_rules.specs.Trees.{TestsBelow}

-- how `GuardTrees` of the code is seen
pub record Guards : Type 0 where
  -- how many conditions they may test
  pub conditions : ℕ
  -- by process, in which outcomes it is active, and how
  pub trees : List Guard
  -- by edge, when it is live
  pub edges : List EdgeGuard

-- the tree of a process; inactive in every outcome if there is no such process
abbrev pub tree_of : Guards → ℕ → Guard
tree_of guards p = get_or guards.trees p (Leaf Inactive)

-- the guard of an edge; if there is none, a stand-in without a test
abbrev pub edge_guard : Guards → ℕ → EdgeGuard
edge_guard guards e = get_or guards.edges e (record { source = 0; test = None })

-- the test of an edge with this `when`, by the condition of its source; none if it has no `when`
abbrev pub test_of : Option ℕ → Option Bool → Option ValueTest
test_of None when = None
test_of (Some c) None = None
test_of (Some c) (Some value) = Some (record { condition = c; value = value })

-- the guard of an edge of a graph: it is live if its source is active and the source's condition has the value of `when`
abbrev pub edge_guard_of : Graph → ℕ → EdgeGuard
edge_guard_of g e = record { source = source g e; test = test_of (condition_of g (source g e)) (edge_at g e).when }

-- whether a test passes for the values of the conditions; without a test it always does
abbrev pub is_passed : Option ValueTest → List Bool → Bool
is_passed None values = true
is_passed (Some test) values = same_bool test.value (get_or values test.condition false)

-- whether a process is active by its tree
abbrev pub active_by : Guards → List Bool → ℕ → Bool
active_by guards values p = is_active (outcome_at (tree_of guards p) values)

-- whether an edge is live by its guard
abbrev pub live_by : Guards → List Bool → ℕ → Bool
live_by guards values e =
    active_by guards values (edge_guard guards e).source && is_passed (edge_guard guards e).test values

-- an edge's guard refers to one of this many processes and, if it has a test, to one of this many conditions
pub record IsEdgeBelow (processes conditions : ℕ) (edge : EdgeGuard) : Type 0 where
  -- its source is a process
  pub source : edge.source < processes
  -- what it tests is a condition
  pub test : IfSome edge.test (λ test. test.condition < conditions)

-- no guard refers to a process or condition that isn't there
pub record AreBelow (guards : Guards) : Type 0 where
  -- no tree tests a condition that isn't there
  pub trees : All (TestsBelow guards.conditions) guards.trees
  -- no edge refers to a process or condition that isn't there
  pub edges : All (IsEdgeBelow (length guards.trees) guards.conditions) guards.edges

-- the guards are those of a graph and an order
pub record AreGuardsOf (g : Graph) (order : List ℕ) (guards : Guards) : Type 0 where
  -- the guards are of as many conditions and processes as the graph has
  pub conditions : guards.conditions ≡ condition_count g
  pub count : length guards.trees ≡ process_count g
  -- the tree of each process says how it is active, by the values of the conditions
  pub trees : (p : ℕ) → p < process_count g → IsGuardOf g order p (tree_of guards p)
  -- the guard of each edge is its source and the value that it asks for
  pub edges : guards.edges ≡ map (edge_guard_of g) (numbers_below (edge_count g))
