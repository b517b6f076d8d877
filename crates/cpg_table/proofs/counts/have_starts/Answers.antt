-- Proof of `have_starts`: whether rows are those of what a node starts.
use Rattle.cpg_table.specs.Items.{starts_of}
use Rattle.cpg_table.proofs.AfterItems.{these_where_nothing, these_never}
use Rattle.cpg_table.proofs.counts.have_starts.Goals as goal

-- the rows begin with those of what the node starts, so they are these exactly if none is left
pub returns-in-Some : goal.returns-in-Some
returns-in-Some c = these_where_nothing (starts_of c.args.head.now c.args.node) c.args.rows.now c.in-Some.rest.now
    c.in-Some.ensures c.is_empty.result c.is_empty.ensures

-- the rows don't begin with those of what the node starts, so they aren't these
pub returns-in-None : goal.returns-in-None
returns-in-None c = these_never (starts_of c.args.head.now c.args.node) c.args.rows.now c.in-None.ensures
