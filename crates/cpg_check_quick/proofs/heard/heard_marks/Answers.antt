-- Proof of `heard_marks`: a mark for each item, by number: whether V4 is known to hold there.
use Rattle.std.proofs.Common.{◌<◌, ap, ◌∙◌, sym, arith}
use Rattle.cpg_base.specs.Graph.{item_count}
use Rattle.cpg_table.specs.declared.rule.Rule.{Rule}
use Rattle.cpg_tree.proofs.Passes.{of_true}
use Rattle.cpg_violation.proofs.SureLaws.{one_more}
use Rattle.cpg_check_quick.proofs.heard.heard_marks.Goals as goal

-- if the mark of the next item is set, V4 is sure there
pub loop-item-preserved : goal.loop-item-preserved
loop-item-preserved c =
    let below : c.loop-item.item < item_count c.args.admitted.now.graph =
    omega (arith, c.loop-item-test.true, c.item_count-count.ensures, ap item_count c.problem-2.ensures.problem) in
    rw c.in_ok-push.ensures.items (one_more c.args.admitted.now.graph c.args.tables.now.nodes Rule.Heard
    c.loop-item.item c.loop-item.marks.items c.in_ok-sure.sure c.loop-item.invariant
    (of_true c.in_ok-sure.sure c.in_ok-sure.ensures
    (λ sure. sure c.args.tables.now.nodes c.requires.sequences c.requires.frames c.requires.rules
    (λ marked. c.requires.inputs c.loop-item.item below (sym c.is_marked-is_in_time.ensures ∙ marked))
    c.columns_of.ensures.columns)))

-- the loop has gone over all items, so each that is marked is sure
pub returns : goal.returns
returns c = c.loop-item.invariant.sure
