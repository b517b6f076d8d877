-- Proof of `keep`, which adds a place to those sides of a fork on which some scenario may match its cube, if there is
-- one.
use Rattle.std.proofs.Common.{◌≡◌, ◌≤◌, ◌<◌, true, sym, subst, map, Bor, List}
use Rattle.cpg_base.specs.Scenario.{number_of}
use Rattle.cpg_cube.specs.declared.literal.Literal.{Literal}
use Rattle.cpg_cube.specs.Cube.{IsRising, matches}
use Rattle.cpg_tree.specs.Space.{IsInSpace}
use Rattle.cpg_row_trees.specs.Places.{IsMatched}
use Rattle.cpg_row_trees.proofs.Past.{past_none}
use Rattle.cpg_row_trees.proofs.PlaceHintLaws.{cube_here, kept_for, kept_out}
use Rattle.cpg_row_trees.proofs.places.keep.Goals as goal

-- a scenario up to the cut that matches the cube is in the range of its literals, so the place is kept for it
pub returns-clause-low : goal.returns-clause-low
returns-clause-low c =
    let cubes : List (List Literal) = map (λ (b : Bor (List Literal)). b.now) c.args.cubes.now in
    -- the cube that was looked up is the one at its place in the list
    let look = c.in-Some.ensures.lookup in
    let at = cube_here c.args.cubes.now c.args.hint.place c.in-Some.cube.now look.3.0 look.1 in
    let variable = c.args.span.cut.variable in
    kept_for (λ s. (number_of s variable ≤ c.args.span.cut.most) ×
    (c.variable_range-range.result.low ≤ number_of s variable))
    c.args.hint.place
    (λ s. (number_of s variable ≤ c.args.span.cut.most) × IsMatched cubes s c.args.hint.place) c.args.low.now.items
    c.keep_below.new.low.items
    (λ s h. (
      h.0,
      c.variable_range-range.ensures.low s (subst (λ xs. matches xs s ≡ true) (sym c.literals-literals.ensures.literals)
          (subst (λ xs. matches xs s ≡ true) at h.1.matched)),
    ))
    c.in_ok-keep_below.ensures

-- a scenario above the cut that matches the cube matches its literals, so the place is kept for it
pub returns-clause-high : goal.returns-clause-high
returns-clause-high c =
    let cubes : List (List Literal) = map (λ (b : Bor (List Literal)). b.now) c.args.cubes.now in
    -- the cube that was looked up is the one at its place in the list
    let look = c.in-Some.ensures.lookup in
    let at = cube_here c.args.cubes.now c.args.hint.place c.in-Some.cube.now look.3.0 look.1 in
    let variable = c.args.span.cut.variable in
    kept_for (λ s. (IsInSpace c.args.space.now s × (c.args.span.cut.most < number_of s variable)) ×
    (matches c.literals-literals.result.now s ≡ true)) c.args.hint.place
    (λ s. (IsInSpace c.args.space.now s × (c.args.span.cut.most < number_of s variable)) ×
    IsMatched cubes s c.args.hint.place)
    c.args.high.now.items c.keep_above.new.high.items
    (λ s h. (
      h.0,
      subst (λ xs. matches xs s ≡ true) (sym c.literals-literals.ensures.literals)
          (subst (λ xs. matches xs s ≡ true) at h.1.matched),
    ))
    c.in_ok-keep_above.ensures.kept

-- no cube is at the place, so the side below needn't have it
pub returns-in_default-clause-low : goal.returns-in_default-clause-low
returns-in_default-clause-low c =
    let cubes : List (List Literal) = map (λ (b : Bor (List Literal)). b.now) c.args.cubes.now in
    let variable = c.args.span.cut.variable in
    kept_out (λ s. (number_of s variable ≤ c.args.span.cut.most) ×
    IsMatched cubes s c.args.hint.place) c.args.hint.place
    c.args.low.now.items
    (λ s h. past_none c.args.cubes.now c.args.hint.place s c.in_default.ensures.lookup.0 h.1)

-- nor need the side above
pub returns-in_default-clause-high : goal.returns-in_default-clause-high
returns-in_default-clause-high c =
    let cubes : List (List Literal) = map (λ (b : Bor (List Literal)). b.now) c.args.cubes.now in
    let variable = c.args.span.cut.variable in
    kept_out (λ s. (IsInSpace c.args.space.now s × (c.args.span.cut.most < number_of s variable)) ×
    IsMatched cubes s c.args.hint.place) c.args.hint.place c.args.high.now.items
    (λ s h. past_none c.args.cubes.now c.args.hint.place s c.in_default.ensures.lookup.0 h.1)

-- the literals of a cube are by rising variables
pub keep_above-requires-clause-rising : goal.keep_above-requires-clause-rising
keep_above-requires-clause-rising c =
    subst IsRising (sym c.literals-literals.ensures.literals) c.literals-literals.ensures.rising

-- the range is that which the literals leave the variable
pub keep_above-requires-clause-range : goal.keep_above-requires-clause-range
keep_above-requires-clause-range c = c.variable_range-range.ensures
