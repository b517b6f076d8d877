-- Proof of `push_all`: adds to a cube literals on variables above its own, in their order.
use Rattle.std.proofs.Common.{◌≡◌, ◌∙◌, ◌++◌, ◌∷◌, take, drop, get_or, suc, sym, ap, subst, append_assoc, drop-cons}
use Rattle.std.proofs.lemmas.List.{take-append-drop}
use Rattle.cpg_cube.specs.Cube.{IsRising}
use Rattle.cpg_cube.specs.declared.literal.Literal.{Literal}
use Rattle.cpg_list.proofs.CodeCubes.{all_lower}
use Rattle.cpg_list.proofs.cubes.push_all.Goals as goal

-- the next literal is on a variable above all that were added
pub push-requires : goal.push-requires
push-requires c =
    let none : Literal = record { variable = 0; low = 0; high = 0 } in
    let index = c.loop-literal.literal-index in
    let ls = c.args.literals.now in
    -- the old cube and all literals are the cube so far, this literal and the literals left
    let split : c.args.cube.now ++ ls ≡ c.loop-literal.cube ++ get_or ls index none ∷ drop (suc index) ls =
    ap (λ xs. c.args.cube.now ++ xs)
    (sym (take-append-drop index ls)
    ∙ ap (λ xs. take index ls ++ xs) (drop-cons ls index none c.loop-literal-test.true))
    ∙ sym (append_assoc c.args.cube.now (take index ls) (get_or ls index none ∷ drop (suc index) ls))
    ∙ ap (λ xs. xs ++ get_or ls index none ∷ drop (suc index) ls) (sym c.loop-literal.invariant) in
    record {
      last = all_lower c.loop-literal.cube (get_or ls index none) (drop (suc index) ls)
          (subst IsRising split c.requires);
    }
