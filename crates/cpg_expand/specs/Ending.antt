-- Trees of the ends of a process, and of when its node is ready after it.
use Rattle.std.specs.Prelude.{ℕ, ◌+◌, ◌≡◌, Bool, true, false, List, [], ◌∷◌, ◌++◌, map, Option}
use Rattle.cpg_base.specs.Duration.{duration}
use Rattle.cpg_base.specs.Graph.{Graph}
use Rattle.cpg_base.specs.Numbers.{numbers_below}
use Rattle.cpg_base.specs.Scenario.{Scenario, number_of}
use Rattle.cpg_cube.specs.declared.literal.Literal.{Literal}
use Rattle.cpg_run.specs.Carried.{number_known}
use Rattle.cpg_tree.specs.Space.{HasAtMostFaults}
use Rattle.cpg_tree.specs.Tree.{TreeState}
use Rattle.cpg_tree.specs.GraphTrees.{IsTree}
use Rattle.cpg_expand.specs.Agreeing.{HasValueFrom}
use Rattle.cpg_expand.specs.Forest.{later_tree}
use Rattle.cpg_tree_times.specs.Values.{ended}
use Rattle.cpg_tree.specs.Later.{time_later}
use Rattle.cpg_expand.specs.declared.forest.Ready.{Ready}
use Rattle.cpg_expand.specs.declared.forest.Ready.TheVariants.{After, At}

-- how long an execution of p lasts with 0, 1, .. faults, up to the most of the graph, by their number
abbrev pub durations_of : Graph → ℕ → List ℕ
durations_of g p = map (duration g p) (numbers_below (g.faults + 1))

-- t has the ends of process p, whose starts the tree `start` has: in each scenario the start and the duration with p's
-- fault count there, or none if it doesn't start. The end is known by the literals of the start and that of the count.
abbrev pub IsEndTree : Graph → ℕ → TreeState (Option ℕ) → TreeState (Option ℕ) → Type 0
IsEndTree g p start t = (s : Scenario) → HasAtMostFaults g.faults s → (literals : List Literal) (x : Option ℕ) →
    HasValueFrom s literals x start →
    HasValueFrom s (literals ++ number_known s p ∷ []) (ended (durations_of g p) (number_of s p) x) t

-- t says when a node is ready after a process, in scenarios of at most k faults: at the process's end (`end`) where it
-- is active (`active`), and otherwise when what it would have waited for is there (`wait`). The literals `by_active`
-- say whether it is active (b), `by_time` that end (x) or wait (w), and v is the time that t has.
abbrev pub IsReadyTree : ℕ → TreeState Bool → TreeState (Option ℕ) → TreeState ℕ → TreeState ℕ → Type 0
IsReadyTree k active end wait t = (s : Scenario) → HasAtMostFaults k s →
    (b : Bool) (by_active by_time : List Literal) (x : Option ℕ) (w v : ℕ) → HasValueFrom s by_active b active →
    (b ≡ true → HasValueFrom s by_time x end × (v ≡ time_later 0 x)) →
    (b ≡ false → HasValueFrom s by_time w wait × (v ≡ w)) → HasValueFrom s (by_active ++ by_time) v t

-- what says when p's node is ready after p: p's own ends, or a tree of the graph
abbrev pub IsReadyAfter : Graph → ℕ → Ready → Type 0
IsReadyAfter g p (After q) = q ≡ p
IsReadyAfter g p (At t) = IsTree g t

-- the tree of when a node goes on: the ends `end`, with 0 where there is none, or the tree that was made for it
abbrev pub goes_on : TreeState (Option ℕ) → Ready → TreeState ℕ
goes_on end (After q) = later_tree end
goes_on end (At t) = t
