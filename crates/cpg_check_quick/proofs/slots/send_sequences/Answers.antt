-- Proof of `send_sequences`: the rows of all items, each send taken to last 1, and for each node the order in which its
-- sends follow one another, if one is known.
use Rattle.cpg_check_quick.specs.Order.{sending}
use Rattle.cpg_check_quick.proofs.slots.send_sequences.Goals as goal

-- the rows are those of the sends, and V3 holds, as `Sequences::of` asks
pub returns : goal.returns
returns c = c.in_ok-sequences.ensures.sequences c.args.admitted.now.graph c.args.tables.now.nodes sending
    c.in_ok-rows.ensures.rows c.requires.rules.1.1.0
