-- Proof of `narrow`, which meets the literal on the same variable with this one, or puts this one in, by its variable,
-- if there is none.
use Rattle.std.proofs.Common.{rules, ◌≡◌, ◌<◌, ◌∙◌, sym, ap, length, Some, None, refl, length-set}
use Rattle.std.specs.Prelude.{position, slice_index_or, slice_set}
use Rattle.smallvec.proofs.SmallVecLemmas.{items-with_items}
use Rattle.cpg_cube.specs.Cube.{Literal}
use Rattle.cpg_cube.specs.Narrow.{meet_literal}
use Rattle.cpg_cube.proofs.NarrowSteps.{from_variable, place_found, narrowed-last, narrowed-set, narrowed-in}
use Rattle.cpg_cube.proofs.Undone.{undo_last, undo_in, undo_set, on_last, on_in, on_set}
use Rattle.cpg_cube.proofs.cube.narrow.Goals as goal

-- no literal is on this variable or above, so the literal is the last one
pub returns-in_default-clause-narrowed : goal.returns-in_default-clause-narrowed
returns-in_default-clause-narrowed c =
    let none_found : position (from_variable c.args.literal.variable) c.args.literals.now.items ≡ None = search rules in
    c.in_ok-push.ensures.ok ∙ sym (narrowed-last c.args.literal c.args.literals.now.items none_found)

-- taking the last literal off gives the literals from before
pub returns-in_default-clause-undo : goal.returns-in_default-clause-undo
returns-in_default-clause-undo c =
    undo_last c.args.literal c.args.literals.now.items _ _ (search rules) c.in_ok-push.ensures.ok

-- a literal to give `get_or` as what it answers past the end
abbrev blank : Literal
blank = record { variable = 0; low = 0; high = 0 }

-- the place found has a literal on the variable, and the met range set there is the narrowing
pub returns-then-other-literal-clause-narrowed : goal.returns-then-other-literal-clause-narrowed
returns-then-other-literal-clause-narrowed c =
    let found_at : position (from_variable c.args.literal.variable) c.args.literals.now.items ≡ Some c.in-Some.place =
    search rules in
    let literals = c.args.literals.now.items in
    let other = slice_index_or literals c.in-Some.place blank in
    -- the list after the literal is written through the borrowed slice
    let written : slice_set c.as_mut_slice.result.now c.in-Some.place c.met.result
    ≡ slice_set literals c.in-Some.place (meet_literal c.args.literal other) =
    rw (c.met.ensures, c.as_slice-2.ensures, c.as_mut_slice.ensures.value) refl in
    rw written (items-with_items c.args.literals.now _ (length-set literals c.in-Some.place _))
    ∙ sym (narrowed-set c.args.literal literals c.in-Some.place blank
    (place_found c.args.literal.variable literals c.in-Some.place found_at)
    (rw c.as_slice-2.ensures at c.if-other-literal.true))

-- setting back the literal that was at the place undoes the narrowing
pub returns-then-other-literal-clause-undo : goal.returns-then-other-literal-clause-undo
returns-then-other-literal-clause-undo c =
    let literals = c.args.literals.now.items in
    let within : c.in-Some.place < length literals = search rules in
    let there : slice_index_or c.as_slice-2.result.now c.in-Some.place blank ≡ slice_index_or literals c.in-Some.place
    blank =
    rw c.as_slice-2.ensures refl in
    -- the list after the literal is written through the borrowed slice
    let written : slice_set c.as_mut_slice.result.now c.in-Some.place c.met.result
    ≡ slice_set literals c.in-Some.place c.met.result = rw c.as_mut_slice.ensures.value refl in
    undo_set c.met.result literals _ c.in-Some.place _ blank within there
    (rw written (items-with_items c.args.literals.now _ (length-set literals c.in-Some.place _)))

-- the place found has a literal on a higher variable, and the literal put in before it is the narrowing
pub returns-clause-narrowed : goal.returns-clause-narrowed
returns-clause-narrowed c =
    let found_at : position (from_variable c.args.literal.variable) c.args.literals.now.items ≡ Some c.in-Some.place =
    search rules in
    let literals = c.args.literals.now.items in
    c.in_ok-insert.ensures.ok ∙ sym
    (narrowed-in c.args.literal literals c.in-Some.place blank
    (place_found c.args.literal.variable literals c.in-Some.place found_at)
    (rw c.as_slice-2.ensures at c.if-other-literal.false))

-- taking the inserted literal out gives the literals from before
pub returns-clause-undo : goal.returns-clause-undo
returns-clause-undo c =
    let within : c.in-Some.place < length c.args.literals.now.items = search rules in
    undo_in c.args.literal c.args.literals.now.items _ c.in-Some.place within c.in_ok-insert.ensures.ok

-- the last place has the literal, and there was none on its variable
pub returns-in_default-clause-on : goal.returns-in_default-clause-on
returns-in_default-clause-on c =
    on_last c.args.literal c.args.literals.now.items _ _ (search rules) c.in_ok-push.ensures.ok

-- both the literal that was at the place and the one set there are on the variable
pub returns-then-other-literal-clause-on : goal.returns-then-other-literal-clause-on
returns-then-other-literal-clause-on c =
    let literals = c.args.literals.now.items in
    let within : c.in-Some.place < length literals = search rules in
    let same : (slice_index_or c.as_slice-2.result.now c.in-Some.place blank).variable ≡ c.args.literal.variable =
    c.if-other-literal.true in
    let met : c.met.result.variable ≡ c.args.literal.variable = ap (λ (m : Literal). m.variable) c.met.ensures ∙ same in
    -- the list after the literal is written through the borrowed slice
    let written : slice_set c.as_mut_slice.result.now c.in-Some.place c.met.result
    ≡ slice_set literals c.in-Some.place c.met.result = rw c.as_mut_slice.ensures.value refl in
    on_set c.met.result literals _ c.in-Some.place c.args.literal.variable _ within same met
    (rw written (items-with_items c.args.literals.now _ (length-set literals c.in-Some.place _)))

-- the place has the inserted literal
pub returns-clause-on : goal.returns-clause-on
returns-clause-on c =
    let within : c.in-Some.place < length c.args.literals.now.items = search rules in
    on_in c.args.literal c.args.literals.now.items _ c.in-Some.place within c.in_ok-insert.ensures.ok
