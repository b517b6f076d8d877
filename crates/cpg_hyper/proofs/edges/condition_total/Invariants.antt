-- Loops of `condition_total`, which returns how many of the first `processes` processes have a condition.
use Rattle.std.proofs.Common.{◌≡◌, ◌≤◌, length, filter}
use Rattle.cpg_base.specs.Numbers.{numbers_below}
use Rattle.cpg_base.specs.Conditions.{has_conditional_output}
use Rattle.cpg_hyper.proofs.edges.condition_total.Given as goal

-- `total` is the number of processes so far with a conditional output, so it is no more than the processes so far
abbrev pub invariant-loop-process : goal.invariant-loop-process
invariant-loop-process l = record {
  total : l.total ≡ length (filter (has_conditional_output l.edges) (numbers_below l.process));
  short : l.total ≤ l.process;
}
