-- The loop of `rows`, which takes one tree after another, makes a row of it, and counts its columns if `wide` has an
-- item.
use Rattle.std.proofs.Common.{◌≡◌, ◌≤◌, ◌+◌, drop, length}
use Rattle.cpg_base.specs.declared.limits.TheConstants.{MOST_LOAD}
use Rattle.cpg_tree_columns.specs.MadeRows.{AreFirstRows}
use Rattle.cpg_core.specs.WideRows.{AreFewIf}
use Rattle.cpg_core.proofs.rows.rows.Given as goal

-- after each tree, the list has the rows of the first `item` items, the other trees are still in the iterator, and
-- the load of the rows so far is counted and within its limit if `wide` names an item
abbrev pub invariant-loop-tree : goal.invariant-loop-tree
invariant-loop-tree l = record {
  count : l.item + length l.tree-iterator.rest.items ≡ length l.fn.times.items;
  left : l.tree-iterator.rest.items ≡ drop l.item l.fn.times.items;
  rows : AreFirstRows l.problem l.urgency l.fn.times.items l.item l.rows.items;
  few : AreFewIf l.wide l.problem l.rows.items l.item l.load;
  load : l.load ≤ MOST_LOAD;
}
