-- Proof of `frozen_start`: the entry of the start of a frozen process, or `None` if the scenario isn't the least of the
-- cube of what decides the process.
use Rattle.cpg_run.specs.Carried.{decided}
use Rattle.cpg_list.proofs.CodeStarts.{kept_of, from_whole}
use Rattle.cpg_list.proofs.starts.frozen_start.Goals as goal

-- the whole cube is narrowed by what decides the process, and nothing else
pub returns : goal.returns
returns c =
    let graph = c.args.problem.now in
    let scenario = c.args.scenario.now in
    let literals = decided graph scenario c.args.process in
    kept_of graph scenario c.args.time literals c.narrow_by_decided.new.cube
    (from_whole graph.faults literals c.whole-cube.result
    c.narrow_by_decided.new.cube c.whole-cube.ensures c.in_ok-narrow_by_decided.ensures)
    c.in_ok-entry.entry c.in_ok-entry.ensures
