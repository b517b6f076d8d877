-- Proof of `NodeTable::new`: the table of a node with these rows: for each item that it starts, then for each that it
-- sends, then for each that it hears (docs/FORMATS.md).
use Rattle.std.proofs.Common.{◌∙◌, All, sym, ap, subst}
use Rattle.cpg_table.specs.Shape.{items_of}
use Rattle.cpg_table.specs.Lawful.{IsLawfulRow}
use Rattle.cpg_table.proofs.node_table.NodeTable.new.Goals as goal

-- `items`: the count was taken, so the rows are those of the node's items. `lawful`: this was tested
pub of-requires-clause-rows : goal.of-requires-clause-rows
of-requires-clause-rows c = record {
  items = ap items_of (sym c.as_slice-2.ensures.value) ∙ c.in-Some.ensures.items;
  lawful = subst (λ s. All (IsLawfulRow s) c.args.rows.items) c.space_of.ensures
      (subst (All (IsLawfulRow c.space_of.result)) c.as_slice.ensures.value
      (c.are_rows.ensures.0 c.if-not-are_rows.false));
}
