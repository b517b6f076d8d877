-- Proof of `measured`: the tables and the frozen times of an order with the greatest finish and the greatest excess of
-- all runs.
use Rattle.cpg_run.proofs.BuiltTables.{found_tables_are_built}
use Rattle.cpg_list.proofs.CodeMade.{timed_of}
use Rattle.cpg_list.proofs.listing.measured.Goals as goal

-- the tables are written from found rows, and the finish and the excess are the greatest of all runs; by
-- `found_tables_are_built` that is all that a builder promises
pub returns : goal.returns
returns c =
    let graph = c.args.admitted.now.graph in
    let urgency = c.args.admitted.now.order in
    let order = c.args.order.now in
    -- a builder's answer: the tables, the frozen times, and the scenarios with the greatest finish and excess
    found_tables_are_built graph urgency order c.requires.tables.rows
    (record {
      tables = c.args.tables;
      frozen = c.args.frozen;
      worst = c.in_ok-worst.worst.time;
      worst_in = c.in_ok-worst.worst.scenario;
      worst_by = c.in_ok-worst.worst.process;
      excess = c.in_ok-excess.excess.time;
      excess_in = c.in_ok-excess.excess.scenario;
      excess_by = c.in_ok-excess.excess.process;
    })
    -- the graph is within its limits, and admitted
    c.problem-problem.ensures.admitted.limits
    (timed_of graph urgency order c.args.admitted.now.guards c.args.frozen c.problem-problem.ensures.admitted
    c.requires.topological c.requires.tables.found.frozen_times).admitted
    -- what was found of it: the tables are written from rows, and both figures are the greatest of the runs
    (record {
      found = c.requires.tables.found;
      written = c.requires.tables.written;
      worst = c.in_ok-worst.ensures order c.args.frozen c.requires.topological c.requires.runs;
      excess = c.in_ok-excess.ensures order c.args.frozen c.requires.topological c.requires.runs;
    })
