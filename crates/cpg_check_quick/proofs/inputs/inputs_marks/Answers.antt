-- Proof of `inputs_marks`: a mark for each item, by number: whether V5 is known to hold there.
use Rattle.cpg_table.specs.declared.rule.Rule.{Rule}
use Rattle.cpg_tree.proofs.Passes.{of_true}
use Rattle.cpg_violation.proofs.SureLaws.{one_more}
use Rattle.cpg_check_quick.proofs.inputs.inputs_marks.Goals as goal

-- if the mark of the next item is set, V5 is sure there
pub loop-item-preserved : goal.loop-item-preserved
loop-item-preserved c = rw c.in_ok-push.ensures.items
    (one_more c.args.admitted.now.graph c.args.tables.now.nodes Rule.Inputs c.loop-item.item c.loop-item.marks.items
    c.in_ok-sure.sure c.loop-item.invariant
    (of_true c.in_ok-sure.sure c.in_ok-sure.ensures (λ sure. sure c.args.tables.now.nodes
    (record {
      links = rw c.problem.ensures.problem at c.in_ok-links.ensures;
      sequences = c.requires.sequences;
      frames = c.requires.frames;
    })
    c.requires.rules c.columns_of.ensures.columns)))

-- the loop has gone over all items, so each that is marked is sure
pub returns : goal.returns
returns c = c.loop-item.invariant.sure
