-- When a node is ready for a process, and has heard what the process's guard tests.
use Rattle.std.specs.Prelude.{ℕ, max, List, ◌++◌, Option, Some, None, Contains, get_or}
use Rattle.cpg_base.specs.Graph.{Graph}
use Rattle.cpg_order.specs.Guard.{Guard, way}
use Rattle.cpg_base.specs.Scenario.{Scenario}
use Rattle.cpg_cube.specs.declared.literal.Literal.{Literal}
use Rattle.cpg_tree.specs.Space.{HasAtMostFaults}
use Rattle.cpg_tree.specs.Tree.{TreeState}
use Rattle.cpg_expand.specs.Agreeing.{HasValueFrom}
use Rattle.cpg_expand.specs.Forest.{ForestState, ready_at, ready_by, heard_tree, heard_delay}
use Rattle.cpg_tree.specs.GraphTrees.{no_tree}
use Rattle.cpg_expand.specs.declared.forest.Ready.{Ready}
use Rattle.cpg_expand.specs.Guarded.{support_of, latest_of}

-- the tree of when the node is ready for its next process
abbrev pub ready_of : Graph → ForestState → ℕ → TreeState ℕ
ready_of g f node = ready_by g f (ready_at g f node)

-- the tree of when the node's slots are free
abbrev pub free_of : Graph → ForestState → ℕ → TreeState ℕ
free_of g f node = get_or f.free node (no_tree g.faults)

-- what a process waits for on its node: the tree of that if one was made, as its guard tests conditions; without one,
-- what says when the node is ready
abbrev pub wait_of : Graph → ForestState → ℕ → Option Ready → Ready
wait_of g f node None = ready_at g f node
wait_of g f node (Some wait) = wait

-- t has the time from which on the node is ready (x, by `base`) and has heard each condition that the guard tests on
-- the scenario's way (`time c`, by `support c`).
abbrev pub IsWaitTree : Graph → ForestState → ℕ → Guard → TreeState ℕ → Type 0
IsWaitTree g f node guard t = (s : Scenario) → HasAtMostFaults g.faults s → (base : List Literal) (x : ℕ) →
    HasValueFrom s base x (ready_of g f node) →
    (support : ℕ → List Literal) (time : ℕ → Option ℕ) →
    ((c : ℕ) → Contains (way guard s.values) c → HasValueFrom s (support c) (time c) (heard_tree g f node c)) →
    HasValueFrom s (base ++ support_of s support (way guard s.values))
    (max x (latest_of (heard_delay g node) time (way guard s.values))) t
