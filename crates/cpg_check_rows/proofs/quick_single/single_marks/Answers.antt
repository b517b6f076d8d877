-- Proof of `single_marks`: a mark for each item, by number: whether its row has a tree.
use Rattle.cpg_table.specs.declared.rule.Rule.{Rule}
use Rattle.cpg_check_rows.proofs.TreeRows.{single_at}
use Rattle.cpg_violation.proofs.SureLaws.{one_more}
use Rattle.cpg_check_rows.proofs.quick_single.single_marks.Goals as goal

-- a row that has a tree keeps V2, so the next mark is right
pub loop-tree-preserved : goal.loop-tree-preserved
loop-tree-preserved c g tables are = rw c.in_ok-push.ensures.items
    (one_more g tables Rule.Single c.loop-tree.tree-index c.loop-tree.marks.items c.is_some.result
    (c.loop-tree.invariant g tables are)
    (rw c.is_some.ensures (single_at g tables c.args.trees.now c.loop-tree.tree-index c.tree-item.result
    c.loop-tree-test.true c.tree-item.is are)))

-- the loop has gone over all items
pub returns : goal.returns
returns c g tables are = (c.loop-tree.invariant g tables are).sure
