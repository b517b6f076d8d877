-- Proof of `with_keys`, which returns the columns, each with the key of its cube.
use Rattle.std.proofs.Common.{◌≡◌, ◌∙◌, List, [], All, arith, rules, sym, ap, subst}
use Rattle.std.proofs.lemmas.Grind.{common_steps}
use Rattle.std.proofs.lemmas.List.Elements.{All-push}
use Rattle.cpg_cube.specs.Cube.{Literal}
use Rattle.cpg_cube.specs.Keys.{AreBytes, IsKeyOf, key_by}
use Rattle.cpg_cube.specs.declared.sorting.Ranked.{Ranked}
use Rattle.cpg_cube.proofs.sorting.with_keys.Goals as goal

-- the column that was added has the key of its cube, as those before have
pub loop-column-preserved : goal.loop-column-preserved
loop-column-preserved g c =
    let invariant = c.loop-column.invariant in
    let has_key = λ (x : Ranked g.row.T.Denot). IsKeyOf c.args.variables.now (g.T.Cubed.cubed x.column) x.key.items in
    record {
      columns = grind (arith, common_steps);
      keys = subst (All has_key) (sym c.in_ok-push.ensures.items)
          (All-push has_key c.loop-column.ranked.items _ invariant.keys
          (record {
            is = c.in_ok-key.ensures.key c.args.variables.now c.places_of-places.ensures
                ∙ ap (λ (ls : List Literal). key_by c.args.variables.now ls) c.cube.ensures;
            bytes = subst AreBytes c.cube.ensures c.in_ok-key.ensures.bytes;
          }));
    }

-- before the loop there are no columns
pub loop-column-init : goal.loop-column-init
loop-column-init g c =
    let none : c.reserve.new.self.items ≡ [] = c.in_ok-reserve.ensures.items ∙ c.new-ranked.ensures.items in
    record {
      columns = search rules;
      keys = subst
          (All (λ (x : Ranked g.row.T.Denot). IsKeyOf c.args.variables.now (g.T.Cubed.cubed x.column) x.key.items))
          (sym none) (λ k d inside. absurd (omega (arith, inside)));
    }

-- no column is left, so the ranked columns are all of them
pub returns-clause-columns : goal.returns-clause-columns
returns-clause-columns g c = grind (arith, common_steps)

-- each ranked column has the key of its cube, as the invariant says
pub returns-clause-keys : goal.returns-clause-keys
returns-clause-keys g c = c.loop-column.invariant.keys
