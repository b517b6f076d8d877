-- Proof of `cube_of`: a cube that matches all scenarios of a space: it has the space's ranges of all variables, except
-- those that have all numbers.
use Rattle.std.proofs.Common.{◌≤◌, length}
use Rattle.cpg_audit.proofs.NarrowingLaws.{ranges_weaker, known_ranges, matches_space}
use Rattle.cpg_audit.proofs.narrowing.cube_of.Goals as goal

-- the first ranges are on variables below those of the second ones
pub push_ranges-requires-2-clause-before : goal.push_ranges-requires-2-clause-before
push_ranges-requires-2-clause-before c =
    let few : length c.processes.result.now ≤ 128 =
    rw c.processes.ensures.processes c.processes.ensures.within.few_processes in
    ranges_weaker c.args.problem.now c.args.space.now
    (length c.processes.result.now) 128 few c.push_ranges.new.cube c.in_ok-push_ranges.ensures

-- each range holds in all scenarios of the space, so the cube matches them
pub returns-clause-matches : goal.returns-clause-matches
returns-clause-matches c s lies =
    matches_space c.args.problem.now c.args.space.now _ c.push_ranges-2.new.cube c.in_ok-push_ranges-2.ensures s lies

-- each range is on a variable of the graph
pub returns-clause-known : goal.returns-clause-known
returns-clause-known c =
    known_ranges c.args.problem.now c.args.space.now _ c.push_ranges-2.new.cube c.in_ok-push_ranges-2.ensures
