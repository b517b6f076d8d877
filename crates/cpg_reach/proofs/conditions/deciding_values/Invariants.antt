-- Loops of `deciding_values`: returns, for each process, the values of the conditions that decide it in some scenario.
use Rattle.cpg_reach.specs.Tested.{AreDecidingUntil}
use Rattle.cpg_reach.proofs.conditions.deciding_values.Given as goal

-- each process below `process` has the values of the conditions that decide it in some scenario
abbrev pub invariant-loop-process : goal.invariant-loop-process
invariant-loop-process l = AreDecidingUntil l.admitted.graph l.process l.values.items
