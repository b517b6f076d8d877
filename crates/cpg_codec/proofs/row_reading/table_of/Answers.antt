-- Proof of `table_of`: the table of a node, if `columns_read` columns were read before it, and how many were read up to its
-- end.
use Rattle.cpg_codec.proofs.TableFields.{rows_are_of}
use Rattle.cpg_codec.proofs.row_reading.table_of.Goals as goal

-- rows that the grammar reads for the node's items are lawful rows of the node
pub of_rows-requires : goal.of_rows-requires
of_rows-requires c =
    rows_are_of c.args.head.now c.args.node c.args.space.now c.args.items.now c.args.columns_read c.args.unread.now
    c.in_ok-rows.rows.items c.rows_of.new.unread c.requires.within c.requires.few
    c.requires.space c.requires.items c.in_ok-rows.ensures.gives
