-- Proof of `write_made`, which writes the pack of rows: the spelling of the tables that have them.
use Rattle.cpg_table.proofs.NodeRows.{long}
use Rattle.cpg_packing.proofs.Fitting.{packable_rows}
use Rattle.cpg_packing.proofs.packing.write_made.Goals as goal

-- rows that tables may have fit the fields of a pack, also when they are later by a slot
pub write_through-requires-clause-packable : goal.write_through-requires-clause-packable
write_through-requires-clause-packable g c =
    packable_rows c.args.problem.now c.nodes-nodes.ensures.within c.args.rows.now c.requires.rows

-- writable rows are one for each item
pub write_through-requires-clause-long : goal.write_through-requires-clause-long
write_through-requires-clause-long g c = long c.args.problem.now c.args.rows.now c.requires.rows
