-- Loops of `steps_of`: returns the steps of all processes, in this order.
use Rattle.std.proofs.Common.{◌≡◌, map, take}
use Rattle.cpg_rules.specs.Steps.{step_of}
use Rattle.cpg_rules.proofs.steps.steps_of.Given as goal

-- after each process, `steps` has the steps of the processes so far
abbrev pub invariant-loop-process : goal.invariant-loop-process
invariant-loop-process l = l.steps.items ≡ map (step_of l.problem) (take l.process-index l.process-items)
