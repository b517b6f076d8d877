-- Proof of `admit`, which adds a place, unless it has no cube or this asks for more than `k` faults.
use Rattle.std.proofs.Common.{◌≡◌, true, refl, sym, subst, map, Bor, List}
use Rattle.std.proofs.lemmas.Bool.{both_ways}
use Rattle.cpg_base.specs.Scenario.{Scenario}
use Rattle.cpg_cube.specs.declared.literal.Literal.{Literal}
use Rattle.cpg_cube.specs.Cube.{matches}
use Rattle.cpg_tree.specs.Space.{IsInSpace}
use Rattle.cpg_tree.proofs.Forks.{from_false}
use Rattle.cpg_row_trees.specs.declared.places.PlaceHint.{PlaceHint}
use Rattle.cpg_row_trees.specs.Places.{IsMatched}
use Rattle.cpg_row_trees.specs.PlaceHints.{KeepsPlace}
use Rattle.cpg_row_trees.proofs.Past.{past_none}
use Rattle.cpg_row_trees.proofs.PlaceHintLaws.{cube_here, kept_out, kept_in}
use Rattle.cpg_row_trees.proofs.places.admit.Goals as goal

-- no scenario of the space has the faults that the cube asks for, so the place needn't be added
pub returns-then-not-affords : goal.returns-then-not-affords
returns-then-not-affords c =
    let cubes : List (List Literal) = map (λ (b : Bor (List Literal)). b.now) c.args.cubes.now in
    -- the cube that was looked up is the one at its place in the list
    let look = c.in-Some.ensures.lookup in
    let at = cube_here c.args.cubes.now c.args.place c.in-Some.cube.now look.3.0 look.1 in
    kept_out (λ s. IsInSpace c.args.space.now s × IsMatched cubes s c.args.place) c.args.place
    c.args.hints.now.items (λ s h.
    both_ways (matches c.literals-literals.result.now s)
    (from_false c.affords.result c.if-not-affords.true c.affords.ensures s h.0)
    (subst (λ xs. matches xs s ≡ true) (sym c.literals-literals.ensures.literals)
    (subst (λ xs. matches xs s ≡ true) at h.1.matched)))

-- the place was added to those that were there
pub returns : goal.returns
returns c =
    let cubes : List (List Literal) = map (λ (b : Bor (List Literal)). b.now) c.args.cubes.now in
    let fits : Scenario → Type 0 = λ s. IsInSpace c.args.space.now s × IsMatched cubes s c.args.place in
    subst (λ (es : List PlaceHint). KeepsPlace fits c.args.place c.args.hints.now.items es)
    (sym c.in_ok-push.ensures.items)
    (kept_in fits c.args.place c.args.hints.now.items
    (record { place = c.args.place; held = 0; spare = c.saturating_sub.result }) refl)

-- no cube is at the place, so it needn't be added
pub returns-in_default : goal.returns-in_default
returns-in_default c =
    let cubes : List (List Literal) = map (λ (b : Bor (List Literal)). b.now) c.args.cubes.now in
    kept_out (λ s. IsInSpace c.args.space.now s × IsMatched cubes s c.args.place) c.args.place c.args.hints.now.items
    (λ s h. past_none c.args.cubes.now c.args.place s c.in_default.ensures.lookup.0 h.1)
