-- Proof of `parts_of`, which returns a part for each item that is started or sent, by number.
use Rattle.std.proofs.Common.{sym, ◌∙◌}
use Rattle.cpg_show.proofs.Rows.{hidden_more, shown_more}
use Rattle.cpg_show.proofs.table.parts_of.Goals.{then-is_shown+in_ok-head_line_of+in_ok-push, else-is_shown}
use Rattle.cpg_show.proofs.table.parts_of.Goals as goal

-- an item that has lines adds its part; one that hasn't adds nothing to the text either
pub loop-item-preserved : goal.loop-item-preserved
loop-item-preserved c = elim c.if-is_shown.branch [
  | then-is_shown+in_ok-head_line_of+in_ok-push w ↦
      rw w.parts-is (rw w.in_ok-push.ensures.items
      (shown_more c.args.problem.now c.args.rows.now c.args.labels.now c.loop-item.item c.loop-item.parts.items _
      (sym c.is_shown.ensures ∙ w.if-is_shown.true) c.requires w.in_ok-head_line_of.ensures w.source_of.ensures
      c.loop-item.invariant))
  | else-is_shown w ↦ rw w.parts-is
      (hidden_more c.args.problem.now c.args.rows.now c.args.labels.now c.loop-item.item c.loop-item.parts.items
      (sym c.is_shown.ensures ∙ w.if-is_shown.false) c.loop-item.invariant)
]
