-- Proof of `row_trees`, which returns for each item the tree of its row, or `None` if none is found.
use Rattle.std.proofs.Common.{arith, ap, length}
use Rattle.cpg_table.proofs.RowColumns.{columns_few}
use Rattle.cpg_row_trees.proofs.trees.row_trees.Goals as goal

-- a row of lawful tables has no more columns than `tree_of` takes
pub tree_of-requires : goal.tree_of-requires
tree_of-requires c = omega (
  arith,
  ap length c.columns_of.ensures.columns,
  columns_few c.args.tables.now.head c.args.tables.now.nodes c.columns_of.ensures.lawful c.loop-item.item,
)
