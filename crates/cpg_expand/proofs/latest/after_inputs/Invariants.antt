-- The loop of `after_inputs`, which goes over the inputs and raises `latest` to the latest arrival, where `active` is
-- true, of each that comes from another node.
use Rattle.std.proofs.Common.{take}
use Rattle.cpg_expand.specs.Latest.{HasInputOf, IsRaised}
use Rattle.cpg_expand.proofs.latest.after_inputs.Given as goal

-- after each edge gone over, `latest` is `floor` raised to the latest time at which one of the edges so far is there
abbrev pub invariant-loop-edge : goal.invariant-loop-edge
invariant-loop-edge l =
    IsRaised l.problem (HasInputOf l.problem l.forest l.active (take l.edge-index l.edges)) l.floor l.latest
