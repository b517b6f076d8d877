-- Proof of `meeting`: those of these places whose columns may match a scenario together with a cube.
use Rattle.std.proofs.Common.{rules, ◌≡◌, ◌∷◌, ◌++◌, [], get_or}
use Rattle.cpg_violation.proofs.ApartLaws.{meets_push, meets_skip, meets_all}
use Rattle.cpg_violation.proofs.sieve.meeting.Goals as goal
use Rattle.cpg_violation.proofs.sieve.meeting.Goals.{then-column_may_meet+in_ok-push, else-column_may_meet}

-- the next place is kept, or its column never matches together with the cube
pub loop-place-preserved : goal.loop-place-preserved
loop-place-preserved c = elim c.if-column_may_meet.branch [
  | then-column_may_meet+in_ok-push w ↦
      let kept_is : c.if-column_may_meet.kept.items ≡ c.loop-place.kept.items
      ++ get_or c.args.places.now c.loop-place.place-index 0 ∷ [] = search rules in
      rw kept_is (meets_push c.args.columns.now c.args.cube.now c.args.places.now c.loop-place.kept.items
      c.loop-place.place-index 0 c.loop-place-test.true c.loop-place.invariant)
  | else-column_may_meet w ↦ rw w.kept-is (meets_skip c.args.columns.now c.args.cube.now c.args.places.now
      c.loop-place.kept.items c.loop-place.place-index 0 c.loop-place-test.true
      w.if-column_may_meet.ensures c.loop-place.invariant)
]

-- at the end all places have been tried
pub returns : goal.returns
returns c = meets_all c.args.columns.now c.args.cube.now c.args.places.now c.loop-place.kept.items
    c.loop-place.place-index c.loop-place-test.false c.loop-place.invariant
