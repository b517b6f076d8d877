-- Loops of `meeting`: those columns of a row that may match a scenario together with a cube: each that does is among
-- them.
use Rattle.std.proofs.Common.{All, Contains, map, take}
use Rattle.cpg_check_time.proofs.MeetingLaws.{AreFound}
use Rattle.cpg_check_time.proofs.meeting.meeting.Given as goal

-- After each place. `among`: each column found is one of the row's. `all`: the column at each place so far, if there is
-- one, is found.
abbrev pub invariant-loop-place : goal.invariant-loop-place
invariant-loop-place l = record {
  among : All (λ d. Contains l.row.columns.now d) (map (λ b. b.now) l.found.items);
  all : AreFound l.row.columns.now (map (λ b. b.now) l.found.items) (take l.place-index l.place-items);
}
