-- Proof of `heard_row_of`: the row of an item as a node hears it; `None` if the node doesn't hear it, or its row has no
-- tree.
use Rattle.std.proofs.Common.{IfSome, ap, ◌∙◌, sym, subst, arith}
use Rattle.cpg_base.specs.Bus.{slot_length}
use Rattle.cpg_table.specs.Table.{columns_of}
use Rattle.cpg_row_trees.specs.Trees.{IsRowTree}
use Rattle.cpg_check_quick.proofs.OrderLaws.{row_at}
use Rattle.cpg_check_quick.proofs.heard_rows.heard_row_of.Goals as goal

-- the node hears the item, and its columns and tree are those of the row that was looked up
pub returns : goal.returns
returns c = λ tables are.
    let graph = c.args.problem.now in
    let is = row_at are c.args.item c.in-Some.row.now c.deref.result.now c.deref.ensures.value
    c.in-Some.ensures.lookup.3.0 c.in-Some.ensures.lookup.1 in
    record {
      item = omega (arith, c.if-item-item_count.false, c.item_count.ensures);
      heard = sym c.is_heard_by.ensures ∙ c.if-not-is_heard_by.false;
      columns = is.columns;
      tree = subst (λ o. IfSome o (IsRowTree graph (columns_of tables c.args.item))) c.in-Some-tree.is is.tree;
      delay = c.slot_length.ensures ∙ ap (slot_length graph) c.home.ensures.home;
      value = rw c.item.ensures.item at c.value_variable_of.ensures;
    }
