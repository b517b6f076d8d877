-- Loops of `active_numbers`: `active_fault` of each process and then `active_value` of each condition.
use Rattle.std.proofs.Common.{◌≡◌, ◌++◌, map}
use Rattle.cpg_base.specs.Numbers.{numbers_below}
use Rattle.cpg_base.specs.Graph.{process_count}
use Rattle.cpg_all_runs.specs.Active.{active_fault, active_value}
use Rattle.cpg_all_runs.proofs.active.active_numbers.Given as goal

-- the numbers so far are those of all processes, followed by those of the conditions below `condition`
abbrev pub invariant-loop-condition : goal.invariant-loop-condition
invariant-loop-condition l =
    l.numbers.items ≡ map (active_fault l.problem l.scenario) (numbers_below (process_count l.problem))
    ++ map (active_value l.problem l.scenario) (numbers_below l.condition)
