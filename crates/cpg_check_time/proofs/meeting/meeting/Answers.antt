-- Proof of `meeting`: those columns of a row that may match a scenario together with a cube: each that does is among
-- them.
use Rattle.std.proofs.Common.{ℕ, ◌≡◌, ◌≤◌, ◌<◌, ◌∙◌, true, length, get_or, map, All, Contains, ap, sym, subst, Bor}
use Rattle.std.proofs.lemmas.List.{take_all}
use Rattle.std.proofs.lemmas.List.Elements.{All-nil}
use Rattle.cpg_base.proofs.Lists.{Contains-nil}
use Rattle.cpg_base.specs.Scenario.{Scenario}
use Rattle.cpg_cube.specs.Cube.{matches}
use Rattle.cpg_cube.specs.declared.column.Column.{Column}
use Rattle.cpg_cube.specs.Column.{column_at}
use Rattle.cpg_check_time.proofs.MeetingLaws.{AreFound, found_more, among_more, same_found}
use Rattle.cpg_check_time.proofs.meeting.meeting.Goals as goal

-- what a reference points to
abbrev at : Bor Column → Column
at b = b.now

-- at first no column is found, and none has to be
pub loop-place-init : goal.loop-place-init
loop-place-init c =
    let empty = c.in_ok-reserve.ensures.items ∙ c.new-found.ensures.items in
    record {
      among = subst (λ xs. All (λ d. Contains c.args.row.now.columns.now d) (map at xs)) (sym empty)
          (All-nil (λ d. Contains c.args.row.now.columns.now d));
      all = λ i in_none. absurd (Contains-nil i in_none);
    }

-- the column at the next place, if there is one, is found
pub loop-place-preserved : goal.loop-place-preserved
loop-place-preserved c =
    let columns = c.args.row.now.columns.now in
    let places = c.deref-place-items.result.now in
    let none : length columns ≤ get_or places c.loop-place.place-index 0 →
    map at c.push_column.new.found.items ≡ map at c.loop-place.found.items =
    λ past. ap (map at) (c.in_ok-push_column.ensures.none past) in
    record {
      among =
          among_more columns places c.loop-place.place-index 0 c.loop-place-test.true (map at c.loop-place.found.items)
          (map at c.push_column.new.found.items) c.in_ok-push_column.ensures.there none c.loop-place.invariant.among;
      all =
          found_more columns places c.loop-place.place-index 0 c.loop-place-test.true (map at c.loop-place.found.items)
          (map at c.push_column.new.found.items) c.in_ok-push_column.ensures.there none c.loop-place.invariant.all;
    }

-- a column that matches together with the cube is at one of the places, so it is found
pub returns-clause-same : goal.returns-clause-same
returns-clause-same c =
    let columns = c.args.row.now.columns.now in
    let places = c.deref-place-items.result.now in
    let all : AreFound columns (map at c.loop-place.found.items) places =
    subst (AreFound columns (map at c.loop-place.found.items))
    (take_all c.loop-place.place-index places c.loop-place-test.false) c.loop-place.invariant.all in
    let candidates : (s : Scenario) (i : ℕ) → i < length columns → matches (column_at columns i).cube s ≡ true →
    matches c.args.cube.now s ≡ true → Contains places i =
    rw c.deref-place-items.ensures.value c.in_ok-places.ensures in
    same_found columns
    (map at c.loop-place.found.items) places c.args.cube.now c.loop-place.invariant.among all candidates
