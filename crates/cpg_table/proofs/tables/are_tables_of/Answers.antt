-- Proof of `are_tables_of`: whether each table is that of its node.
use Rattle.std.proofs.Common.{◌∙◌, arith, subst}
use Rattle.cpg_table.specs.Table.{empty_table, table_at}
use Rattle.cpg_table.specs.Lawful.{IsTableOf}
use Rattle.std.proofs.lemmas.List.{get_or_default}
use borrow.Author.Count.{below_more}
use Rattle.cpg_table.proofs.tables.are_tables_of.Goals as goal

-- this table is that of its node, as are those before it
pub loop-table-preserved : goal.loop-table-preserved
loop-table-preserved c =
    let head = c.args.head.now in
    let ts = c.args.nodes.now in
    let index = c.loop-table.table-index in
    record {
      counted = omega (arith, c.loop-table.invariant.counted);
      each = below_more (λ k. IsTableOf head k (table_at ts k)) index c.loop-table.invariant.each
          (subst (λ k. IsTableOf head k (table_at ts index)) c.loop-table.invariant.counted
          (subst (IsTableOf head c.loop-table.node)
          (c.table-item.is ∙ get_or_default ts index c.table-item.result empty_table c.loop-table-test.true)
          (c.is_table_of.ensures.0 c.if-not-is_table_of.false)));
    }
