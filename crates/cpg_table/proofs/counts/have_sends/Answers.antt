-- Proof of `have_sends`: whether rows are those of what a node sends.
use Rattle.cpg_table.specs.Items.{sends_of}
use Rattle.cpg_table.proofs.AfterItems.{these_where_nothing, these_never}
use Rattle.cpg_table.proofs.counts.have_sends.Goals as goal

-- the rows begin with those of what the node sends, so they are these exactly if none is left
pub returns-in-Some : goal.returns-in-Some
returns-in-Some c = these_where_nothing (sends_of c.args.head.now c.args.node) c.args.rows.now c.in-Some.rest.now
    c.in-Some.ensures c.is_empty.result c.is_empty.ensures

-- the rows don't begin with those of what the node sends, so they aren't these
pub returns-in-None : goal.returns-in-None
returns-in-None c = these_never (sends_of c.args.head.now c.args.node) c.args.rows.now c.in-None.ensures
