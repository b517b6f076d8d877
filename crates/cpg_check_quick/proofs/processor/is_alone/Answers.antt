-- Proof of `is_alone`: whether V6 is known to hold at an item: its executions overlap none of a process of a lower
-- number on its node.
use Rattle.std.proofs.Common.{◌∙◌, ap, arith, length}
use Rattle.cpg_tree.proofs.Passes.{of_true}
use Rattle.cpg_check_quick.specs.Order.{execution}
use Rattle.cpg_check_quick.proofs.ClashLaws.{sure_alone, sure_no_process}
use Rattle.cpg_check_quick.proofs.processor.is_alone.Goals as goal

-- the item is apart from each process on its node with a lower number
pub returns : goal.returns
returns c = of_true c.in_ok-is_alone.is_alone c.in_ok-is_alone.ensures (λ all tables are.
    sure_alone c.args.problem.now tables c.args.item c.as_slice.result.now (c.as_slice.ensures.value
    ∙ c.in_ok-lower.ensures) (all c.args.problem.now tables (execution c.args.problem.now) are))

-- the item isn't a start, so it takes no processor
pub returns-then-item-processes : goal.returns-then-item-processes
returns-then-item-processes c = λ tables are. sure_no_process c.args.problem.now tables c.args.item
    (omega (arith, c.if-item-processes.true, ap length c.processes.ensures.processes))
