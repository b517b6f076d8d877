-- What makes a tree one of a graph.
use Rattle.std.proofs.Common.{ℕ, ◌≡◌, ◌∙◌, sym, subst}
use Rattle.cpg_base.specs.Graph.{Graph}
use Rattle.cpg_base.specs.Scenario.{Scenario}
use Rattle.cpg_tree.specs.GraphTrees.{IsTree}
use Rattle.cpg_tree.specs.Space.{HasAtMostFaults}
use Rattle.cpg_tree.specs.Tree.{TreeState, HasOnePathEach, DoPathsPass}
use Rattle.cpg_tree.specs.Variables.{is_variable}

-- a tree with the faults of another is one of the graph, if its variables are the graph's
pub same_tree : {T U : Type 0} (g : Graph) (a : TreeState T) (t : TreeState U) → a.faults ≡ g.faults → t.faults ≡ a.faults →
    HasOnePathEach t.faults t.paths →
    DoPathsPass (is_variable g) t.paths →
    IsTree g t
same_tree g a t is same each known = record { faults = same ∙ is; each = subst (λ n. HasOnePathEach n t.paths) (same ∙ is) each; known = known }

-- a scenario of at most k faults has at most m faults, if m equals k
pub few_of : (k m : ℕ) (s : Scenario) → m ≡ k → HasAtMostFaults k s → HasAtMostFaults m s
few_of k m s e few = subst (λ n. HasAtMostFaults n s) (sym e) few
