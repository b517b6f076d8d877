-- Loops of `add_inputs`, which adds what the times depend on at which the inputs of a process are there.
use Rattle.std.proofs.Common.{filter, ◌==◌}
use Rattle.std.specs.List.{flat_map}
use Rattle.cpg_base.specs.Numbers.{numbers_below}
use Rattle.cpg_base.specs.Graph.{target}
use Rattle.cpg_order.specs.Reach.{input_reach}
use Rattle.cpg_reach.specs.Variables.{Adds}
use Rattle.cpg_reach.proofs.starting.add_inputs.Given as goal

-- the set has the old numbers and what the inputs of the process by edges below `edge` depend on
abbrev pub invariant-loop-edge : goal.invariant-loop-edge
invariant-loop-edge l = Adds l.fn.reach (flat_map (input_reach l.problem l.reaches)
    (filter (λ e. target l.problem e == l.process) (numbers_below l.edge))) l.reach
