-- Loops of `shared`: the least scenario that a cube matches together with the column at one of these places.
use Rattle.std.proofs.Common.{◌&&◌, take}
use Rattle.std.specs.List.{list_any}
use Rattle.cpg_base.specs.First.{IsFirst}
use Rattle.cpg_cube.specs.Cube.{matches}
use Rattle.cpg_violation.specs.Room.{HasRoom}
use Rattle.cpg_violation.specs.Sieves.{is_at}
use Rattle.cpg_check_rows.proofs.single.shared.Given as goal

-- After each place. `first`: `found` is the least scenario that the cube matches together with a column at one of the
-- places so far, and `None` if there is none. `room`: a scenario of the graph can still be written into `room`.
abbrev pub invariant-loop-place : goal.invariant-loop-place
invariant-loop-place l = record {
  first : IsFirst l.problem l.order
      (λ s. matches l.cube s && list_any (is_at l.columns s) (take l.place-index l.places)) l.found;
  room : HasRoom l.problem l.room;
}
