-- Proof of `rows`, which returns a row for each item, by number, made from the tree of its times in `times`. A row
-- keeps that tree, or lists the columns, and the tree is dropped. If `wide` has an item, columns are counted: `TooWide`
-- names it if a row has more than 16,384, or all rows of all tables more than 524,288. If it is `None`, nothing is
-- counted.
use Rattle.std.proofs.Common.{◌≡◌, ◌<◌, ◌∙◌, ◌∷◌, length, get_or, arith, rules, sym, ap, subst}
use Rattle.cpg_tree.specs.GraphTrees.{IsTree}
use Rattle.cpg_tree.specs.GraphTrees.{no_tree}
use Rattle.cpg_tree_columns.specs.MadeRows.{IsRowOf}
use Rattle.cpg_core.proofs.RowsMade.{next_left, rows_more}
use Rattle.cpg_core.proofs.WideRowsMade.{few_all, few_first, few_more, wide_shown}
use Rattle.cpg_expand.specs.Large.{ShowsLarge}
use Rattle.cpg_core.specs.WideRows.{HaveWideRows}
use Rattle.cpg_expand.proofs.LargeShown.{handed_on}
use Rattle.cpg_core.proofs.rows.rows.Goals as goal

-- the trees left begin with that of the next item, so the tree is one of the graph
pub row-requires-clause-tree : goal.row-requires-clause-tree
row-requires-clause-tree c =
    let g = c.args.problem.now in
    let times = c.args.times.items in
    let item = c.loop-tree.item in
    let inv = c.loop-tree.invariant in
    let rest = c.next.new.self.rest.items in
    let is : c.loop-tree.tree-iterator.rest.items ≡ c.in-Some.tree ∷ rest = search rules in
    let within : item < length times = omega (arith, inv.count, ap length is) in
    subst (IsTree g) (next_left times rest c.in-Some.tree (no_tree g.faults) item (sym is ∙ inv.left)).0
    (c.requires.trees item (no_tree g.faults) within)

-- the row of this item is made, and the columns so far are counted with it
pub loop-tree-preserved : goal.loop-tree-preserved
loop-tree-preserved c =
    let g = c.args.problem.now in
    let times = c.args.times.items in
    let item = c.loop-tree.item in
    let inv = c.loop-tree.invariant in
    let rest = c.next.new.self.rest.items in
    -- the next tree is that of `item`
    let is : c.loop-tree.tree-iterator.rest.items ≡ c.in-Some.tree ∷ rest = search rules in
    let next = next_left times rest c.in-Some.tree (no_tree g.faults) item (sym is ∙ inv.left) in
    -- one tree less is left, and the rows so far have one row more
    record {
      count = omega (arith, inv.count, ap length is);
      left = next.1;
      rows =
          rows_more g c.args.urgency.now times item c.loop-tree.rows.items c.push.new.self.items c.in_ok-row.row
          inv.rows
          (subst (λ t. IsRowOf g c.args.urgency.now t item c.in_ok-row.row) (sym next.0) c.in_ok-row.ensures)
          c.in_ok-push.ensures.items;
      few = few_more g c.loop-tree.rows.items c.push.new.self.items c.in_ok-row.row item inv.rows.count
          c.in_ok-push.ensures.items c.args.wide c.loop-tree.load c.in_ok-load.load inv.few
          c.in_ok-load.ensures.load;
      load = c.in_ok-load.ensures.few;
    }

-- before the first item there is no row, and no column is counted
pub loop-tree-init : goal.loop-tree-init
loop-tree-init c = record {
  count = search rules;
  left = search rules;
  rows = search rules;
  few = few_first c.args.wide c.args.problem.now _ (search rules);
  load = omega arith;
}

-- the rows of all items are made, and they are few
pub returns-clause-few : goal.returns-clause-few
returns-clause-few c =
    let inv = c.loop-tree.invariant in
    few_all c.args.wide c.args.problem.now c.loop-tree.rows.items c.loop-tree.item c.loop-tree.load
    (search rules) inv.few

-- the load refuses this row alone or all rows up to it, so the rows of the graph's trees are too wide
pub returns-in_err-load-clause-fault : goal.returns-in_err-load-clause-fault
returns-in_err-load-clause-fault c =
    let g = c.args.problem.now in
    let times = c.args.times.items in
    let item = c.loop-tree.item in
    let inv = c.loop-tree.invariant in
    let rest = c.next.new.self.rest.items in
    -- the next tree is that of `item`
    let is : c.loop-tree.tree-iterator.rest.items ≡ c.in-Some.tree ∷ rest = search rules in
    let within : item < length times = omega (arith, inv.count, ap length is) in
    let next = next_left times rest c.in-Some.tree (no_tree g.faults) item (sym is ∙ inv.left) in
    let fault = c.in_err-load.field-0.0 in
    -- its row is too wide, or all rows up to it are
    handed_on _ c.from_residual-in_err-load.result fault c.from_residual-in_err-load.ensures.1
    (wide_shown c.args.wide fault g c.args.urgency.now times c.loop-tree.rows.items c.in_ok-row.row item
    c.loop-tree.load
    (omega (arith, within, c.requires.count)) inv.rows
    (subst (λ t. IsRowOf g c.args.urgency.now t item c.in_ok-row.row) (sym next.0) c.in_ok-row.ensures) inv.few
    c.in_err-load.ensures.fault)
