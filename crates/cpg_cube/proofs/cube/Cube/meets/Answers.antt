-- Proof of `Cube::meets`: whether some scenario within the problem's faults matches this cube and another.
use Rattle.std.proofs.Common.{rules, ◌≡◌, ◌∙◌, false, true}
use Rattle.cpg_cube.specs.Fit.{do_meet, both_lows}
use Rattle.cpg_cube.proofs.CubeLaws.{apart_from_meet}
use Rattle.cpg_cube.proofs.TwoCubes.{both-least}
use Rattle.cpg_cube.proofs.cube.Cube.meets.Goals as goal

-- the bounds of this cube can't be raised to the other's lows, so no scenario matches both cubes
pub returns-in_default-clause-apart : goal.returns-in_default-clause-apart
returns-in_default-clause-apart c =
    let ensured = c.raised_bounds.ensures in
    let meet : do_meet c.args.problem.now c.args.self.now c.args.other.now ≡ false = search rules in
    apart_from_meet c.args.problem.now ensured.limits.few_processes c.args.self.now c.args.other.now ensured.cubes.0
    ensured.cubes.1 meet

-- the written scenario is that of the greater lows, which is the least that both cubes match
pub returns-clause-least : goal.returns-clause-least
returns-clause-least c order =
    let ensured = c.raised_bounds.ensures in
    let meet : do_meet c.args.problem.now c.args.self.now c.args.other.now ≡ true = search rules in
    let same : c.write_lows.new.least ≡ both_lows c.args.problem.now c.args.self.now c.args.other.now =
    c.write_lows.ensures.lows ∙ c.in-Some.ensures.lows in
    rw same (both-least c.args.problem.now ensured.limits.few_processes c.args.self.now c.args.other.now ensured.cubes.0
    ensured.cubes.1 meet order)
