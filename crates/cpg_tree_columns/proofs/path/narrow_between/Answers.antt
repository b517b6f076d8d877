-- Proof of `narrow_between`, which narrows the cube by a literal, and returns that step: the literal is put in its
-- place, or met with the one on its variable.
use Rattle.std.proofs.Common.{◌≡◌, ◌<◌, ◌∙◌, ℕ, Some, None, length, arith, refl, sym, ap, rules}
use Rattle.std.specs.Prelude.{position, slice_index_or, slice_set}
use Rattle.std.specs.Vec.{vec_len}
use Rattle.cpg_cube.specs.declared.literal.Literal.{Literal}
use Rattle.cpg_cube.specs.Narrow.{meet_literal}
use Rattle.cpg_cube.proofs.NarrowSteps.{from_variable, place_found, narrowed-last, narrowed-set, narrowed-in}
use Rattle.cpg_cube.proofs.Undone.{undo_in, undo_set}
use Rattle.cpg_tree_columns.proofs.PathRoom.{room_last, room_in}
use Rattle.cpg_tree_columns.proofs.path.narrow_between.Goals as goal

-- no literal is on this variable or above, so there is room for the literal
pub push_reserved-requires : goal.push_reserved-requires
push_reserved-requires c =
    let e : position (from_variable c.args.literal.variable) c.args.literals.now.items ≡ None = search rules in
    let long : length c.args.literals.now.items ≡ vec_len c.args.literals.now = search rules in
    let small : c.args.literal.variable < 256 = search rules in
    omega (arith, room_last c.args.literal small c.args.literals.now.items c.requires.path e, long, c.requires.room)

-- no literal is on this variable or a later one, and narrowing puts the literal last then, as the code does
pub returns-in_default-clause-narrowed : goal.returns-in_default-clause-narrowed
returns-in_default-clause-narrowed c =
    let e : position (from_variable c.args.literal.variable) c.args.literals.now.items ≡ None = search rules in
    c.push_reserved.ensures.items ∙ sym (narrowed-last c.args.literal c.args.literals.now.items e)

-- the place that is found has a literal on the variable, and narrowing meets it with the given one
pub returns-then-other-literal-clause-narrowed : goal.returns-then-other-literal-clause-narrowed
returns-then-other-literal-clause-narrowed c =
    let xs = c.args.literals.now.items in
    let place = c.in-Some.place in
    let d = c.index-other.result.now in
    let e : position (from_variable c.args.literal.variable) xs ≡ Some place = search rules in
    ap (slice_set xs place) (c.met.ensures ∙ ap (meet_literal c.args.literal) c.index-other.ensures)
    ∙ sym (narrowed-set c.args.literal xs place d (place_found c.args.literal.variable xs place e)
    (ap (λ (l : Literal). l.variable) (sym c.index-other.ensures) ∙ c.if-other-literal.true))

-- setting back the literal that was at the place undoes the narrowing
pub returns-then-other-literal-clause-undo : goal.returns-then-other-literal-clause-undo
returns-then-other-literal-clause-undo c =
    let within : c.in-Some.place < length c.args.literals.now.items = search rules in
    undo_set c.met.result c.args.literals.now.items _ c.in-Some.place c.index-other.result.now c.index-other.result.now
    within c.index-other.ensures refl

-- the place found has a literal on a higher variable, so there is room for the literal
pub put_at-requires-clause-room : goal.put_at-requires-clause-room
put_at-requires-clause-room c =
    let xs = c.args.literals.now.items in
    let place = c.in-Some.place in
    let e : position (from_variable c.args.literal.variable) xs ≡ Some place = search rules in
    let long : length xs ≡ vec_len c.args.literals.now = search rules in
    let small : c.args.literal.variable < 256 = search rules in
    let within : place < length xs = search rules in
    omega (
      arith,
      room_in c.args.literal small xs place c.index-other.result.now c.requires.path within
          (place_found c.args.literal.variable xs place e)
          (λ h. c.if-other-literal.false (ap (λ (l : Literal). l.variable) c.index-other.ensures ∙ h)),
      long,
      c.requires.room,
    )

-- the place that is found has a literal on a later variable, and narrowing puts the given one before it
pub returns-clause-narrowed : goal.returns-clause-narrowed
returns-clause-narrowed c =
    let xs = c.args.literals.now.items in
    let place = c.in-Some.place in
    let e : position (from_variable c.args.literal.variable) xs ≡ Some place = search rules in
    c.put_at.ensures.items ∙ sym
    (narrowed-in c.args.literal xs place c.index-other.result.now (place_found c.args.literal.variable xs place e)
    (λ h. c.if-other-literal.false (ap (λ (l : Literal). l.variable) c.index-other.ensures ∙ h)))

-- taking the inserted literal out gives the literals from before
pub returns-clause-undo : goal.returns-clause-undo
returns-clause-undo c =
    let within : c.in-Some.place < length c.args.literals.now.items = search rules in
    undo_in c.args.literal c.args.literals.now.items _ c.in-Some.place within c.put_at.ensures.items
