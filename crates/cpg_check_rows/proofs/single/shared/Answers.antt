-- Proof of `shared`: the least scenario that a cube matches together with the column at one of these places.
use Rattle.std.proofs.Common.{get_or, ◌&&◌}
use Rattle.cpg_cube.specs.Cube.{matches}
use Rattle.cpg_violation.specs.Sieves.{is_at}
use Rattle.cpg_violation.proofs.Columnwise.{first_any_more}
use Rattle.cpg_cover.proofs.AlongLaws.{lawful_if_some}
use Rattle.cpg_check_rows.proofs.single.shared.Goals as goal

-- the scenario of the next place, if there is one, is lawful
pub earlier-found-requires-clause-second : goal.earlier-found-requires-clause-second
earlier-found-requires-clause-second c = lawful_if_some c.args.problem.now c.args.order.now
    (λ s. matches c.args.cube.now s && is_at c.args.columns.now s (get_or c.args.places.now c.loop-place.place-index 0))
    c.in_ok-next.next (c.in_ok-next.ensures.first c.args.order.now)

-- the earlier of the answer so far and the next place's is the least for one place more
pub loop-place-preserved : goal.loop-place-preserved
loop-place-preserved c = record {
  first = rw c.earlier-found.ensures (first_any_more c.args.problem.now c.args.order.now (matches c.args.cube.now)
      (is_at c.args.columns.now) c.args.places.now c.loop-place.place-index 0 c.loop-place-test.true
      c.loop-place.found c.in_ok-next.next c.loop-place.invariant.first (c.in_ok-next.ensures.first c.args.order.now));
  room = c.in_ok-next.ensures.room;
}
