-- Proof of `is_sure`: whether V8 is known to hold at an item.
use Rattle.std.proofs.Common.{◌≡◌, All, subst}
use Rattle.cpg_cube.specs.declared.column.Column.{Column}
use Rattle.cpg_tree.proofs.Passes.{of_true}
use Rattle.cpg_violation.proofs.TimeLaws.{frozen_sure}
use Rattle.cpg_violation.proofs.quick_frozen.is_sure.Goals as goal

-- no column has another time than the first that matches, so none breaks V8
pub returns : goal.returns
returns c = of_true c.is_one_time.result c.is_one_time.ensures
    (λ one. frozen_sure c.args.problem.now c.args.tables.now.nodes c.args.item one.0
    (subst (λ xs. All (λ (d : Column). d.time ≡ one.0) xs) c.columns_of.ensures.columns one.1))
