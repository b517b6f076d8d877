-- Proof of `end`, which returns the ends of a process, given its starts: in each scenario the start and the duration
-- with its fault count there, and none where it doesn't start.
use Rattle.std.proofs.Common.{ℕ, List, ◌≡◌, ◌∙◌, subst}
use Rattle.cpg_tree.specs.Tree.{IsJoin, IsNumber}
use Rattle.cpg_tree.specs.Variables.{is_variable}
use Rattle.cpg_tree_times.specs.Values.{ended}
use Rattle.cpg_expand.proofs.GuardTrees.{count_passes}
use Rattle.cpg_expand.proofs.EndTrees.{end_valued}
use Rattle.cpg_tree.proofs.GraphTrees.{same_tree}
use Rattle.cpg_expand.proofs.ending.end.Goals as goal

-- the tree has the faults of the starts, and forks on the graph's variables alone
pub returns-clause-tree : goal.returns-clause-tree
returns-clause-tree c = same_tree c.args.problem.now c.args.start.now c.in_ok-end.end c.requires.start.faults
    c.in_ok-end.ensures.is.faults c.in_ok-end.ensures.each
    (c.in_ok-end.ensures.pass (is_variable c.args.problem.now) c.requires.start.known
    (c.in_ok-faults.ensures.pass (is_variable c.args.problem.now)
    (count_passes c.args.problem.now c.args.process c.requires.process)))

-- the ends are found from the starts and the process's fault count, by how long an execution lasts with each count
pub returns-clause-end : goal.returns-clause-end
returns-clause-end c =
    end_valued c.args.problem.now c.args.process c.args.start.now c.in_ok-end.end c.in_ok-faults.faults c.requires.start
    (subst (λ k. IsNumber c.args.process k (λ n. n) c.in_ok-faults.faults) c.faults.ensures.faults
    c.in_ok-faults.ensures.is) c.in_ok-faults.ensures.each
    (subst (λ (ds : List ℕ). IsJoin (λ x n z. z ≡ ended ds n x) c.args.start.now c.in_ok-faults.faults c.in_ok-end.end)
    (c.as_slice.ensures.value ∙ c.in_ok-durations.ensures) c.in_ok-end.ensures.is)
