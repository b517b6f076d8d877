-- Loops of `inputs_of`: returns the inputs of a process, by edge number.
use Rattle.std.proofs.Common.{◌≡◌, ◌==◌, map, filter}
use Rattle.cpg_base.specs.Numbers.{numbers_below}
use Rattle.cpg_base.specs.Graph.{target}
use Rattle.cpg_rules.specs.Steps.{input_of}
use Rattle.cpg_rules.proofs.steps.inputs_of.Given as goal

-- after each edge, `found` has the inputs of the process among the edges so far
abbrev pub invariant-loop-edge : goal.invariant-loop-edge
invariant-loop-edge l =
    l.found.items ≡ map (input_of l.problem) (filter (λ e. target l.problem e == l.process) (numbers_below l.edge))
