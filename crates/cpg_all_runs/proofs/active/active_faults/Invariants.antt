-- Loops of `active_faults`: `active_fault` of each process, in the order of their numbers.
use Rattle.std.proofs.Common.{◌≡◌, map}
use Rattle.cpg_base.specs.Numbers.{numbers_below}
use Rattle.cpg_all_runs.specs.Active.{active_fault}
use Rattle.cpg_all_runs.proofs.active.active_faults.Given as goal

-- the numbers so far are those of the processes below `process`
abbrev pub invariant-loop-process : goal.invariant-loop-process
invariant-loop-process l = l.numbers.items ≡ map (active_fault l.problem l.scenario) (numbers_below l.process)
