-- Proof of `Cube::exchange`, which undoes a narrowing and narrows the cube by another literal on the same variable
-- instead.
use Rattle.std.proofs.Common.{◌≤◌, ◌≡◌, ◌∙◌, List, Some, length, length-set, arith, refl, sym, ap, subst}
use Rattle.std.specs.Prelude.{slice_set}
use Rattle.std.specs.List.{refill}
use Rattle.smallvec.proofs.SmallVecLemmas.{items-with_items}
use Rattle.cpg_cube.specs.Cube.{Literal, IsRising}
use Rattle.cpg_cube.proofs.Exchanged.{none_exchanged, some_exchanged, rising_exchanged, undo_exchanged}
use Rattle.cpg_cube.proofs.cube.Cube.exchange.Goals as goal

-- the range left is empty, so the cube before, narrowed by the literal, is none
pub returns-then-left-clause-none : goal.returns-then-left-clause-none
returns-then-left-clause-none c =
    none_exchanged c.args.literal c.args.self.now c.restore.ensures.rising c.args.narrowed c.requires.place
    c.requires.on c.left-left.result c.left-left.ensures (omega (arith, c.if-left.true))

-- the variables still rise, as the literal set at the place is on the variable of the one before
pub invariant_of-self : goal.invariant_of-self
invariant_of-self c =
    let literals = c.self.inside.literals.items in
    -- the list after the literal is written through the borrowed slice
    let written : slice_set c.as_mut_slice.result.now c.args.narrowed.place c.left-left.result
    ≡ slice_set literals c.args.narrowed.place c.left-left.result = rw c.as_mut_slice.ensures.value refl in
    let filled : refill (length literals) literals
    (slice_set c.as_mut_slice.result.now c.args.narrowed.place c.left-left.result)
    ≡ slice_set c.args.self.now c.args.narrowed.place c.left-left.result =
    rw written (items-with_items c.self.inside.literals _
    (length-set literals c.args.narrowed.place c.left-left.result))
    ∙ ap (λ ys. slice_set ys c.args.narrowed.place c.left-left.result) c.self.view_is in
    subst IsRising (sym filled) (rising_exchanged c.args.literal c.args.self.now (subst IsRising c.self.view_is
    c.self.invariant) c.args.narrowed c.requires.place c.requires.on c.left-left.result
    c.left-left.ensures c.requires.rising)

-- a number of the variable is left, so the cube as it was, with the literal, is the new cube
pub returns-clause-narrowed : goal.returns-clause-narrowed
returns-clause-narrowed c =
    let literals = c.self.inside.literals.items in
    -- the list after the literal is written through the borrowed slice
    let written : slice_set c.as_mut_slice.result.now c.args.narrowed.place c.left-left.result
    ≡ slice_set literals c.args.narrowed.place c.left-left.result = rw c.as_mut_slice.ensures.value refl in
    let filled : refill (length literals) literals
    (slice_set c.as_mut_slice.result.now c.args.narrowed.place c.left-left.result)
    ≡ slice_set c.args.self.now c.args.narrowed.place c.left-left.result =
    rw written (items-with_items c.self.inside.literals _
    (length-set literals c.args.narrowed.place c.left-left.result))
    ∙ ap (λ ys. slice_set ys c.args.narrowed.place c.left-left.result) c.self.view_is in
    let some : c.left-left.result.low ≤ c.left-left.result.high = omega (arith, c.if-left.false) in
    some_exchanged c.args.literal c.args.self.now (subst IsRising c.self.view_is c.self.invariant) c.args.narrowed
    c.requires.place c.requires.on c.left-left.result c.left-left.ensures some ∙
    ap Some (sym filled)

-- the narrowing leads from the new cube back to the cube as it was
pub returns-clause-undo : goal.returns-clause-undo
returns-clause-undo c =
    let literals = c.self.inside.literals.items in
    -- the list after the literal is written through the borrowed slice
    let written : slice_set c.as_mut_slice.result.now c.args.narrowed.place c.left-left.result
    ≡ slice_set literals c.args.narrowed.place c.left-left.result = rw c.as_mut_slice.ensures.value refl in
    let filled : refill (length literals) literals
    (slice_set c.as_mut_slice.result.now c.args.narrowed.place c.left-left.result)
    ≡ slice_set c.args.self.now c.args.narrowed.place c.left-left.result =
    rw written (items-with_items c.self.inside.literals _
    (length-set literals c.args.narrowed.place c.left-left.result))
    ∙ ap (λ ys. slice_set ys c.args.narrowed.place c.left-left.result) c.self.view_is in
    undo_exchanged c.args.literal c.args.self.now (subst IsRising c.self.view_is c.self.invariant) c.args.narrowed
    c.requires.place c.requires.on c.left-left.result c.left-left.ensures _ filled
