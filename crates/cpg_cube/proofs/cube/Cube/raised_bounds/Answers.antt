-- Proof of `Cube::raised_bounds`, which returns this cube's bounds with each low raised to that of another cube, if
-- that is greater; `None` exactly if no scenario within the problem's faults matches both cubes.
use Rattle.std.proofs.Common.{rules, ◌≡◌, ◌∙◌, sym, false, true, None, Some}
use Rattle.std.specs.Prelude.{is_some}
use Rattle.cpg_cube.specs.Fit.{IsCube, asked_of_literal, is_open}
use Rattle.cpg_cube.specs.Bounds.{AreBounds, budget_left, touches, more_asked}
use Rattle.cpg_cube.proofs.Meeting.{met_from_none, meet_where_unmet, meet_from_fit, lows_raised}
use Rattle.cpg_cube.proofs.cube.Cube.raised_bounds.Goals as goal

-- this cube isn't met, as the budget is not enough, so the cubes don't meet
pub returns-in_default-clause-none : goal.returns-in_default-clause-none
returns-in_default-clause-none c =
    let graph = c.args.problem.now in
    let this_cube = c.args.self.now in
    -- this cube is a cube of the graph: its variables rise, and each is one of the graph's
    let is_a : IsCube graph this_cube = record { rising = c.literals.ensures.rising; known = c.requires.first } in
    -- its literals ask for more than k faults, or one of them can't hold
    let none : budget_left (is_open graph.faults) asked_of_literal graph.faults this_cube ≡ None = search rules in
    meet_where_unmet graph c.faults-k.ensures.within this_cube is_a c.args.other.now
    (met_from_none graph.faults this_cube none)

-- the other cube doesn't fit beside the bounds of this one, so the cubes don't meet
pub returns-then-not-fits-clause-none : goal.returns-then-not-fits-clause-none
returns-then-not-fits-clause-none c =
    let graph = c.args.problem.now in
    let this_cube = c.args.self.now in
    let other_cube = c.args.other.now in
    -- both lists of literals are cubes of the graph
    let is_a : IsCube graph this_cube = record { rising = c.literals.ensures.rising; known = c.requires.first } in
    let is_b : IsCube graph other_cube =
    record { rising = c.literals-literals.ensures.rising; known = c.requires.second } in
    -- the faults that this cube leaves, and its bounds
    let some : budget_left (is_open graph.faults) asked_of_literal graph.faults this_cube ≡ Some c.in-Some.left =
    search rules in
    let are : AreBounds this_cube c.of-bounds.result.low c.of-bounds.result.high = search rules in
    let fit : is_some (budget_left (touches graph.faults c.of-bounds.result.low c.of-bounds.result.high)
    (more_asked c.of-bounds.result.low) c.in-Some.left other_cube) ≡ false = search rules in
    sym (meet_from_fit graph c.faults-k.ensures.within this_cube is_a other_cube is_b c.of-bounds.result.low
    c.of-bounds.result.high are c.in-Some.left some) ∙ fit

-- the other cube fits beside the bounds of this one, so the cubes meet
pub returns-clause-some : goal.returns-clause-some
returns-clause-some c =
    let graph = c.args.problem.now in
    let this_cube = c.args.self.now in
    let other_cube = c.args.other.now in
    -- both lists of literals are cubes of the graph
    let is_a : IsCube graph this_cube = record { rising = c.literals.ensures.rising; known = c.requires.first } in
    let is_b : IsCube graph other_cube =
    record { rising = c.literals-literals.ensures.rising; known = c.requires.second } in
    -- the faults that this cube leaves, and its bounds
    let some : budget_left (is_open graph.faults) asked_of_literal graph.faults this_cube ≡ Some c.in-Some.left =
    search rules in
    let are : AreBounds this_cube c.of-bounds.result.low c.of-bounds.result.high = search rules in
    let fit : is_some (budget_left (touches graph.faults c.of-bounds.result.low c.of-bounds.result.high)
    (more_asked c.of-bounds.result.low) c.in-Some.left other_cube) ≡ true = search rules in
    sym (meet_from_fit graph c.faults-k.ensures.within this_cube is_a other_cube is_b c.of-bounds.result.low
    c.of-bounds.result.high are c.in-Some.left some) ∙ fit

-- the raised lows make the scenario of the greater of both cubes' lows
pub returns-clause-lows : goal.returns-clause-lows
returns-clause-lows c =
    let graph = c.args.problem.now in
    let this_cube = c.args.self.now in
    let other_cube = c.args.other.now in
    -- both lists of literals are cubes of the graph
    let is_a : IsCube graph this_cube = record { rising = c.literals.ensures.rising; known = c.requires.first } in
    let is_b : IsCube graph other_cube =
    record { rising = c.literals-literals.ensures.rising; known = c.requires.second } in
    -- the faults that this cube leaves, and its bounds
    let some : budget_left (is_open graph.faults) asked_of_literal graph.faults this_cube ≡ Some c.in-Some.left =
    search rules in
    let are : AreBounds this_cube c.of-bounds.result.low c.of-bounds.result.high = search rules in
    lows_raised graph c.faults-k.ensures.within this_cube is_a other_cube is_b c.of-bounds.result.low
    c.of-bounds.result.high are c.in-Some.left some c.raise.new.self.low
    (rw c.literals-literals.ensures.literals at c.raise.ensures)
