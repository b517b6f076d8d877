-- Proof of `places_on_side`: those of these places that go to one side of a cut: below it, if `below`, or above it, if
-- not.
use Rattle.std.proofs.Common.{rules, ◌≡◌, ◌∷◌, ◌++◌, [], get_or}
use Rattle.cpg_violation.proofs.SieveLaws.{keeps_push, keeps_skip, keeps_all}
use Rattle.cpg_violation.proofs.sieve.places_on_side.Goals as goal
use Rattle.cpg_violation.proofs.sieve.places_on_side.Goals.{then-column_goes+in_ok-push, else-column_goes}

-- the next place is kept, or its column never matches on the side
pub loop-place-preserved : goal.loop-place-preserved
loop-place-preserved c = elim c.if-column_goes.branch [
  | then-column_goes+in_ok-push w ↦
      let kept_is : c.if-column_goes.kept.items ≡ c.loop-place.kept.items
      ++ get_or c.args.places.now c.loop-place.place-index 0 ∷ [] = search rules in
      rw kept_is (keeps_push c.args.columns.now c.args.cut.variable c.args.cut.most c.args.below c.args.places.now
      c.loop-place.kept.items c.loop-place.place-index 0 c.loop-place-test.true
      c.loop-place.invariant)
  | else-column_goes w ↦ rw w.kept-is (keeps_skip c.args.columns.now c.args.cut.variable c.args.cut.most c.args.below
      c.args.places.now c.loop-place.kept.items c.loop-place.place-index 0
      c.loop-place-test.true w.if-column_goes.ensures c.loop-place.invariant)
]

-- the loop has gone over all places, so each column that goes to this side is kept
pub returns : goal.returns
returns c = keeps_all c.args.columns.now c.args.cut.variable c.args.cut.most c.args.below c.args.places.now
    c.loop-place.kept.items c.loop-place.place-index c.loop-place-test.false
    c.loop-place.invariant
