-- Proof of `do_rise_behind`: whether the variables of `front`, which rise, and then those of `rest` rise together.
use Rattle.std.proofs.Common.{◌≡◌, ◌-◌, ◌≤◌, ◌<◌, ◌∷◌, None, Some, length, false, true, rules}
use Rattle.std.specs.Prelude.{slice_get}
use Rattle.cpg_cube.specs.Cube.{Literal}
use Rattle.cpg_cube.proofs.Joined.{rises_alone, rises_not, rises_together}
use Rattle.cpg_cube.proofs.cube.do_rise_behind.Goals as goal

-- nothing comes before the literals, so they rise together if they rise alone
pub returns-in_default : goal.returns-in_default
returns-in_default c =
    let none : slice_get c.args.front.now (length c.args.front.now - 1) ≡ None = search rules in
    rises_alone c.args.front.now c.args.rest.now c.do_variables_rise.result none c.do_variables_rise.ensures

-- the last variable before the literals isn't below their first, so they don't rise together
pub returns-then-last-first : goal.returns-then-last-first
returns-then-last-first c =
    let is : slice_get c.args.front.now (length c.args.front.now - 1) ≡ Some c.in-Some.last.now = search rules in
    let first : c.args.rest.now ≡ c.in-Some-split_first.first.now ∷ c.in-Some-split_first.field-0-1.now =
    search rules in
    let not_above : c.in-Some-split_first.first.now.variable ≤ c.in-Some.last.now.variable = search rules in (
      λ is_true. absurd (let is : false ≡ true = is_true in cc),
      λ rises. absurd (rises_not c.args.front.now c.args.rest.now c.in-Some.last.now c.in-Some-split_first.first.now
          c.in-Some-split_first.field-0-1.now is first not_above rises),
    )

-- the last variable before the literals is below their first, so they rise together exactly if those behind do
pub returns : goal.returns
returns c =
    let is : slice_get c.args.front.now (length c.args.front.now - 1) ≡ Some c.in-Some.last.now = search rules in
    let first : c.args.rest.now ≡ c.in-Some-split_first.first.now ∷ c.in-Some-split_first.field-0-1.now =
    search rules in
    let lower : c.in-Some.last.now.variable < c.in-Some-split_first.first.now.variable = search rules in
    rises_together c.args.front.now c.args.rest.now c.in-Some.last.now c.in-Some-split_first.first.now
    c.in-Some-split_first.field-0-1.now c.do_variables_rise-2.result c.requires is first lower
    c.do_variables_rise-2.ensures
