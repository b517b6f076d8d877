-- Proof of `add_row`: adds to `told` for each column of a row that may match together with a cube the part in which it
-- tells a bound by a time.
use Rattle.std.proofs.Common.{◌||◌, Contains, get_or, sym, ap, ◌∙◌, subst}
use Rattle.std.specs.List.{list_any}
use Rattle.std.proofs.Math.Bool.{or-false}
use Rattle.std.proofs.lemmas.List.{take_all}
use Rattle.cpg_cube.specs.Cube.{matches}
use Rattle.cpg_check_heard.specs.TellingRows.{is_telling, is_telling_at}
use Rattle.cpg_check_heard.proofs.ArrivalLaws.{late_row}
use Rattle.cpg_check_heard.proofs.PartLaws.{told_add, known_add, row_more, row_all}
use Rattle.cpg_check_heard.proofs.parts.add_row.Goals as goal

-- with the next place's part, the cubes match where one place more of the row tells the bound
pub loop-place-preserved : goal.loop-place-preserved
loop-place-preserved c =
    let graph = c.args.problem.now in
    let places = c.as_slice-place-items.result.now in
    record {
      known = rw c.in_ok-add.ensures
          (known_add graph c.loop-place.told.items c.in_ok-part.part c.loop-place.invariant.known
          c.in_ok-part.ensures.known);
      -- the cubes match where one of the places so far, or this one, tells the bound
      told = λ s lawful. row_more (is_telling_at graph c.args.row.now.means c.args.time c.args.bound
          c.args.row.now.sieved.now.columns.now s) places c.loop-place.place-index 0 c.loop-place-test.true
          (list_any (λ b. matches b s) c.args.told.now.items) (list_any (λ b. matches b s) c.loop-place.told.items)
          (list_any (λ b. matches b s) c.add.new.told.items) (c.loop-place.invariant.told s lawful)
          (ap (list_any (λ b. matches b s)) c.in_ok-add.ensures
          ∙ told_add graph (λ t. is_telling_at graph c.args.row.now.means c.args.time c.args.bound
          c.args.row.now.sieved.now.columns.now t (get_or places c.loop-place.place-index 0))
          c.loop-place.told.items c.in_ok-part.part c.in_ok-part.ensures.part s lawful);
    }

-- the places have each column of the row that matches together with the cube, so they tell what the row does
pub returns-clause-told : goal.returns-clause-told
returns-clause-told c = λ s i m.
    let graph = c.args.problem.now in
    let places = c.as_slice-place-items.result.now in
    c.loop-place.invariant.told s i ∙ ap (λ t. list_any (λ b. matches b s) c.args.told.now.items || t)
    (ap (list_any (is_telling_at graph c.args.row.now.means c.args.time c.args.bound
    c.args.row.now.sieved.now.columns.now s)) (take_all c.loop-place.place-index places c.loop-place-test.false)
    ∙ row_all graph c.args.row.now.means c.args.time c.args.bound c.args.row.now.sieved.now.columns.now places s
    (λ j l t.
    subst (λ xs. Contains xs j) (sym c.as_slice-place-items.ensures.value) (c.in_ok-places.ensures s j l t m)))

-- even the first column comes too late, so the row tells nothing
pub returns-then-not-may_have_come-clause-told : goal.returns-then-not-may_have_come-clause-told
returns-then-not-may_have_come-clause-told c = λ s i m.
    let graph = c.args.problem.now in
    let row = c.args.row.now in
    let told = list_any (λ b. matches b s) c.args.told.now.items in
    sym (ap (λ x. told || x) (late_row (is_telling graph row.means c.args.time c.args.bound s)
    row.sieved.now.columns.now
    row.sieved.now.first c.requires.row.first
    (c.if-not-may_have_come.ensures graph c.args.bound s)) ∙ or-false told)
