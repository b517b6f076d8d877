-- Loops of `live_inputs`: the edges to a process that are live in the outcome of a scenario.
use Rattle.std.proofs.Common.{◌≡◌, filter, take}
use Rattle.cpg_base.specs.Activity.{live}
use Rattle.cpg_latest.proofs.asking.live_inputs.Given as goal

-- `edges` has the live ones of the edges so far, in their order
abbrev pub invariant-loop-edge : goal.invariant-loop-edge
invariant-loop-edge l =
    l.edges.items ≡ filter (live l.setting.problem.now l.scenario.values) (take l.edge-index l.edge-items)
