-- Proof of `is_surely_covered`: whether a list is found to cover a cube.
use Rattle.std.proofs.Common.{rules, ◌≡◌, Bor, List, Some, length, ltb-true}
use Rattle.std.specs.Prelude.{nat_lt}
use Rattle.std.proofs.lemmas.Bool.{OnTrue_from}
use Rattle.cpg_base.specs.Scenario.{number_of}
use Rattle.cpg_cube.specs.declared.literal.Literal.{Literal}
use Rattle.cpg_cube.specs.Fit.{IsCube, is_open, asked_of_literal}
use Rattle.cpg_cube.specs.Bounds.{AreBounds, budget_left}
use Rattle.cpg_cover.specs.Fewest.{Needs}
use Rattle.cpg_cover.proofs.GroundLaws.{is_on, is_narrow, is_covered}
use Rattle.cpg_cover.proofs.covering.is_surely_covered.Goals as goal

-- if what the cubes leave takes more faults than the cube does, every scenario of the cube matches one of them
pub returns : goal.returns
returns c =
    let graph = c.args.problem.now in
    let cube = c.args.cube.now in
    let limits = c.faults.ensures.within in
    -- this cube is a cube of the graph: its variables rise, and each is one of the graph's
    let is : IsCube graph cube = record { rising = c.literals.ensures.rising; known = c.requires } in
    let low = c.of-bounds.result.low in
    let high = c.of-bounds.result.high in
    let left = c.in-Some.left in
    -- the bounds of the cube, and the faults that it leaves
    let are : AreBounds cube low high = search rules in
    let long : length low ≡ 256 = search rules in
    -- the faults that this cube leaves
    let some : budget_left (is_open graph.faults) asked_of_literal graph.faults cube ≡ Some left = search rules in
    -- the faults that what is beyond the lows needs
    let needs : Needs c.add_over.new.cubes.items c.in_ok-least_faults.least_faults = rw c.as_slice.ensures.value at c.in_ok-least_faults.ensures in
    OnTrue_from (nat_lt left c.in_ok-least_faults.least_faults) _ (λ enough s lawful matched.
    is_covered graph limits cube is low high are long left some s lawful matched
    (λ (d : Bor (List Literal)). d.now) c.args.by.now
    c.add_over.new.cubes.items c.in_ok-least_faults.least_faults needs
    (ltb-true left c.in_ok-least_faults.least_faults enough)
    (λ any_matched. c.in_ok-cubes.ensures (number_of s)
    (is_on graph limits cube is low high are long left some s lawful matched)
    (c.in_ok-add_over.ensures (number_of s)
    (rw c.literals-3.ensures.literals (is_narrow graph limits cube is low high are long left some s lawful matched))
    any_matched)))
