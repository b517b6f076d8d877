-- Loops of `ways`: the number of ways in which `counts` counts of faults add up to at most `faults` faults.
use Rattle.std.proofs.Common.{◌≡◌}
use Rattle.cpg_order.specs.Counting.{ways}
use Rattle.cpg_all_runs.proofs.few.ways.Given as goal

-- `ways` is in how many ways `counts` counts of faults add up to at most `placed`
abbrev pub invariant-loop-placed : goal.invariant-loop-placed
invariant-loop-placed l = l.ways ≡ ways l.counts l.placed
