-- Loops of `latest_there`: when all live inputs among these are there.
use Rattle.std.proofs.Common.{◌≡◌, if◌then◌else◌, map, take}
use Rattle.cpg_base.specs.Numbers.{greatest}
use Rattle.cpg_base.specs.Activity.{live}
use Rattle.cpg_run.specs.Run.{input_there}
use Rattle.cpg_run.proofs.waiting.latest_there.Given as goal

-- `latest` is when all live edges so far are there; an edge that isn't live counts 0
abbrev pub invariant-loop-edge : goal.invariant-loop-edge
invariant-loop-edge l =
    l.latest ≡ greatest (map (λ e. if live l.problem l.scenario.values e then input_there l.problem l.known e else 0)
    (take l.edge-index l.edges))
