-- Proof of `first_by_key`, which returns the place of the first column with the least key; `None` exactly if there is
-- no column.
use Rattle.std.proofs.Common.{◌<◌, ◌≡◌, ◌∙◌, arith, get_or, length, refl, rules, ap, subst}
use Rattle.std.proofs.lemmas.Grind.{common_steps}
use Rattle.std.proofs.lemmas.List.{get_or_default}
use Rattle.cpg_cube.specs.Keys.{AreBytes, key_by}
use Rattle.cpg_cube.proofs.KeyOrder.{first_alone, best_next}
use Rattle.cpg_cube.proofs.sorting.first_by_key.Goals as goal

-- the first column is the best of one column
pub loop-place-init : goal.loop-place-init
loop-place-init g c =
    let columns = c.args.columns.now in
    let variables = c.args.variables.now in
    let within : 0 < length columns = grind (arith, common_steps) in
    let of_first : (d : g.row.T.Denot) → c.cube.result.now ≡ g.T.Cubed.cubed (get_or columns 0 d) =
    λ d. c.cube.ensures ∙
    ap g.T.Cubed.cubed (c.index-columns-0.is ∙ get_or_default columns 0 c.index-columns-0.result d within) in
    record {
      first =
          first_alone g.T.Cubed.cubed columns variables (λ d. subst AreBytes (of_first d) c.in_ok-key.ensures.bytes);
      key = λ d. c.in_ok-key.ensures.key variables c.places_of-places.ensures ∙ ap (key_by variables) (of_first d);
    }

-- the lesser of the best so far and the next column is the best of one column more
pub loop-place-preserved : goal.loop-place-preserved
loop-place-preserved g c =
    let columns = c.args.columns.now in
    let variables = c.args.variables.now in
    let here = c.loop-place.place in
    let within : here < length columns = omega (arith, c.loop-place-test.true) in
    -- the column at this place has the key that was made
    best_next g.T.Cubed.cubed columns variables here c.loop-place.best
    (record { key = c.in_ok-key-2.key; place = here }) c.loop-place.invariant refl
    (λ d.
    let is : c.cube-in-loop-place.result.now ≡ g.T.Cubed.cubed (get_or columns here d) = c.cube-in-loop-place.ensures ∙
    ap g.T.Cubed.cubed (c.index-columns-place.is ∙ get_or_default columns here c.index-columns-place.result d within) in
    record {
      is = c.in_ok-key-2.ensures.key variables c.places_of-places.ensures ∙ ap (key_by variables) is;
      bytes = subst AreBytes is c.in_ok-key-2.ensures.bytes;
    })
    c.lesser-best.result c.lesser-best.ensures

-- the loop has seen all columns, so the best of them is the first of all
pub returns-clause-first : goal.returns-clause-first
returns-clause-first g c =
    let first_by_keys = c.loop-place.invariant.first in
    record {
      there = search rules;
      first = λ j d inside. first_by_keys.first j d (omega (arith, inside));
      bytes = λ j d inside. first_by_keys.bytes j d (omega (arith, inside));
    }
