-- Proof of `is_sure`: whether V9 is known to hold at an item.
use Rattle.std.proofs.Common.{◌≡◌, ◌≤◌, ◌+◌, All, true, subst}
use Rattle.cpg_base.specs.Duration.{duration, due}
use Rattle.cpg_base.specs.Scenario.{Scenario, IsScenario, fault_of}
use Rattle.cpg_cube.specs.Cube.{matches}
use Rattle.cpg_cube.specs.declared.column.Column.{Column}
use Rattle.cpg_tree.proofs.Passes.{of_true}
use Rattle.cpg_violation.proofs.TimeLaws.{due_sure}
use Rattle.cpg_violation.proofs.quick_due.is_sure.Goals as goal

-- all columns of the item end by the due, so it keeps V9
pub returns : goal.returns
returns c =
    let graph = c.args.problem.now in
    let process = c.args.item in
    of_true c.all_end_in_time.result c.all_end_in_time.ensures
    (λ all. due_sure graph c.args.tables.now.nodes process
    (subst (λ xs. All (λ (d : Column). (s : Scenario) → IsScenario graph s → matches d.cube s ≡ true →
    d.time + duration graph process (fault_of s process) ≤ due graph process) xs) c.columns_of.ensures.columns all))
