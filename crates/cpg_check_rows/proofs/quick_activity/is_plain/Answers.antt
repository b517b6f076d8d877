-- Proof of `is_plain`: whether all processes, and an item as well, are known to be active in every scenario.
use Rattle.std.proofs.lemmas.Bool.{OnTrue_at, OnTrue_from}
use Rattle.cpg_tree.proofs.Passes.{of_true}
use Rattle.cpg_violation.specs.Always.{AllAlways}
use Rattle.cpg_check_rows.proofs.quick_activity.is_plain.Goals as goal

-- if the answer is true, all processes are always active
pub returns-clause-all : goal.returns-clause-all
returns-clause-all c = OnTrue_from c.is_item_running.result (AllAlways c.args.admitted.now.graph)
    (λ e. OnTrue_at c.if-not-all.false c.requires.all)

-- and the item is active in each scenario of the space, which has all
pub returns-clause-item : goal.returns-clause-item
returns-clause-item c =
    of_true c.is_item_running.result c.is_item_running.ensures (λ told s law. told s law (c.requires.everywhere s law))
