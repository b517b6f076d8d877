-- Loops of `scenarios`: the scenarios of a graph that has at most 16,384 of them, each once.
use Rattle.std.proofs.Common.{◌≡◌}
use Rattle.cpg_all_runs.specs.Listing.{with_values_below}
use Rattle.cpg_all_runs.proofs.enumeration.scenarios.Given as goal

-- the list has the scenarios in which only conditions below `condition` are true, with any faults
abbrev pub invariant-loop-condition : goal.invariant-loop-condition
invariant-loop-condition l = l.list.items ≡ with_values_below l.problem l.condition
