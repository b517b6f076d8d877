-- Proof of `processor_marks`: a mark for each item, by number: whether V6 is known to hold there.
use Rattle.std.proofs.Common.{◌∷◌, [], arith}
use Rattle.std.proofs.lemmas.List.{length-append}
use Rattle.cpg_table.specs.declared.rule.Rule.{Rule}
use Rattle.cpg_tree.proofs.Passes.{of_true}
use Rattle.cpg_violation.proofs.SureLaws.{one_more}
use Rattle.cpg_check_quick.proofs.processor.processor_marks.Goals as goal

-- if the mark of the next item is set, V6 is sure there
pub loop-item-preserved : goal.loop-item-preserved
loop-item-preserved c = rw c.in_ok-push.ensures.items (record {
  long =
      omega (arith, length-append c.loop-item.marks.items (c.in_ok-is_sure.is_sure ∷ []), c.loop-item.invariant.long);
  sure = λ tables are. (one_more c.args.problem.now tables Rule.Processor c.loop-item.item c.loop-item.marks.items
      c.in_ok-is_sure.is_sure
      (record { long = c.loop-item.invariant.long; sure = c.loop-item.invariant.sure tables are })
      (of_true c.in_ok-is_sure.is_sure c.in_ok-is_sure.ensures (λ alone. alone tables are))).sure;
})
