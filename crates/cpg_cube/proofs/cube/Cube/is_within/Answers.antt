-- Proof of `Cube::is_within`, which does what `within` does.
use Rattle.std.proofs.Common.{rules, ◌≡◌, ◌∙◌, sym, None, Some}
use Rattle.cpg_cube.specs.Fit.{IsCube, asked_of_literal, is_open}
use Rattle.cpg_cube.specs.Bounds.{AreBounds, budget_left}
use Rattle.cpg_cube.proofs.Meeting.{met_from_none, within_where_unmet, within_from_span}
use Rattle.cpg_cube.proofs.cube.Cube.is_within.Goals as goal

-- this cube isn't met, as the budget is not enough, so it lies within every other
pub returns-in_default-clause-exact : goal.returns-in_default-clause-exact
returns-in_default-clause-exact c =
    let graph = c.args.problem.now in
    let this_cube = c.args.self.now in
    -- this cube is a cube of the graph: its variables rise, and each is one of the graph's
    let is_a : IsCube graph this_cube = record { rising = c.literals.ensures.rising; known = c.requires.first } in
    -- its literals ask for more than k faults, or one of them can't hold
    let none : budget_left (is_open graph.faults) asked_of_literal graph.faults this_cube ≡ None = search rules in
    sym (within_where_unmet graph c.faults.ensures.within this_cube is_a c.args.other.now
    (met_from_none graph.faults this_cube none))

-- the literals of the other cube span the bounds of this one exactly if it lies within the other
pub returns-clause-exact : goal.returns-clause-exact
returns-clause-exact c =
    let graph = c.args.problem.now in
    let this_cube = c.args.self.now in
    let other_cube = c.args.other.now in
    -- both lists of literals are cubes of the graph
    let is_a : IsCube graph this_cube = record { rising = c.literals.ensures.rising; known = c.requires.first } in
    let is_b : IsCube graph other_cube =
    record { rising = c.literals-literals.ensures.rising; known = c.requires.second } in
    -- the faults that this cube leaves, and its bounds
    let some : budget_left (is_open graph.faults) asked_of_literal graph.faults this_cube ≡ Some c.in-Some.left =
    search rules in
    let are : AreBounds this_cube c.of-bounds.result.low c.of-bounds.result.high = search rules in
    (rw c.literals-literals.ensures.literals at c.span_all.ensures)
    ∙ within_from_span graph c.faults.ensures.within this_cube is_a other_cube is_b c.of-bounds.result.low
    c.of-bounds.result.high are
    c.in-Some.left some
