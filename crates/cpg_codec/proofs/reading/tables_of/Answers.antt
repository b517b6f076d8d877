-- Proof of `tables_of`: the tables of a pack, read from their head on.
use Rattle.cpg_codec.proofs.TableFields.{tables_are_of}
use Rattle.cpg_codec.proofs.reading.tables_of.Goals as goal

-- tables that the grammar reads under a head are lawful tables of it
pub of-requires : goal.of-requires
of-requires c = tables_are_of c.in_ok-head.head c.space_of-space.result c.next_head.new.unread c.in_ok-nodes.nodes.items
    c.nodes_of.new.unread c.space_of-space.ensures.within
    c.space_of-space.ensures.space c.in_ok-nodes.ensures
