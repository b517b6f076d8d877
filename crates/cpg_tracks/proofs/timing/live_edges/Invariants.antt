-- Loops of `live_edges`: returns for each edge, by number, whether it is live in the scenario.
use Rattle.std.proofs.Common.{◌≡◌, map}
use Rattle.cpg_base.specs.Numbers.{numbers_below}
use Rattle.cpg_base.specs.Activity.{live}
use Rattle.cpg_tracks.proofs.timing.live_edges.Given as goal

-- the list says for each edge so far whether it is live
abbrev pub invariant-loop-edge : goal.invariant-loop-edge
invariant-loop-edge l = l.marks.items ≡ map (live l.problem l.scenario.values) (numbers_below l.edge)
