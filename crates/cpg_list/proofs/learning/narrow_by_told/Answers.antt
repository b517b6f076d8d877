-- Proof of `narrow_by_told`: narrows a cube by the column of an item that matches in a scenario, if the item is sent
-- there.
use Rattle.std.proofs.Common.{◌≡◌, ◌∙◌, get_or, sym, ap, subst}
use Rattle.std.specs.Option.{option_to_list}
use Rattle.cpg_cube.specs.Cube.{matches}
use Rattle.cpg_cube.specs.declared.column.Column.{Column}
use Rattle.cpg_list.specs.Narrowing.{met}
use Rattle.cpg_list.specs.TimeOrder.{FindsHit}
use Rattle.cpg_list.proofs.CodeTold.{told_none, told_found, told_missing}
use Rattle.cpg_list.proofs.learning.narrow_by_told.Goals as goal

-- the item has no time, so no column matches, and nothing is carried
pub returns-in_default : goal.returns-in_default
returns-in_default c = ap (met c.args.cube.now)
    (sym (told_none c.args.row.now.columns c.args.scenario.now (c.requires ∙ ap option_to_list c.in_default.is)))

-- the item has a time, so some column of that time matches, and the search can't miss it
pub returns-in_default-find : goal.returns-in_default-find
returns-in_default-find c =
    absurd (told_missing c.args.row.now.columns c.args.scenario.now c.in-Some.time
    (c.requires ∙ ap option_to_list c.in-Some.is)
    (subst (FindsHit c.args.row.now.columns c.in-Some.time c.args.scenario.now) c.in_default-find.is c.find.ensures))

-- the column that was found is the one that matches, so its cube has the literals that are carried
pub returns : goal.returns
returns c =
    let row = c.args.row.now.columns in
    let scenario = c.args.scenario.now in
    let found = c.in-Some-find.ensures in
    let column = c.index-columns-place.result in
    let at : column ≡ get_or row c.in-Some-find.place column =
    c.index-columns-place.is ∙ ap (λ cs. get_or cs c.in-Some-find.place column) c.columns-columns.ensures in
    c.in_ok-narrow.ensures ∙ ap (met c.args.cube.now)
    (c.literals.ensures.literals ∙ ap (λ (x : Column). x.cube) (sym c.index-columns-place.is)
    ∙ sym (told_found row scenario c.in-Some.time
    (c.requires ∙ ap option_to_list c.in-Some.is) c.in-Some-find.place column found.0 at
    (ap (λ (x : Column). matches x.cube scenario) at ∙ (found.1 column found.0).1)))
