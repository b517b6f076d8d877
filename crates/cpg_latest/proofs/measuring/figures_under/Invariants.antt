-- Loops of `figures_under`: the greatest excess and the greatest finish of all scenarios under an order, in time units,
-- given the outcomes of a graph's tracks.
use Rattle.cpg_latest.specs.Course.{outcomes_of}
use Rattle.cpg_latest.specs.Lanes.{AreLanesBefore}
use Rattle.cpg_latest.proofs.measuring.figures_under.Given as goal

-- the frozen items from processes before the place have their frozen times, and each course of each track its latest times
abbrev pub invariant-loop-place : goal.invariant-loop-place
invariant-loop-place l = AreLanesBefore l.setting (outcomes_of l.tracks) l.place l.frozen l.lanes.items
