-- Loops of `scenario_of`: returns the scenario without faults in which a condition is true exactly if its process
-- stands so.
use Rattle.std.proofs.Common.{◌≡◌, ◌<◌, ℕ, length, get_or, false, None, replicate}
use Rattle.cpg_base.specs.Graph.{process_count, condition_count, process_of}
use Rattle.cpg_rules.specs.Alternatives.{is_set}
use Rattle.cpg_rules.proofs.joins.scenario_of.Given as goal

-- the scenario is right for the conditions so far
abbrev pub invariant-loop-condition : goal.invariant-loop-condition
invariant-loop-condition l = record {
  -- there is a value for each condition
  long : length l.scenario.values ≡ condition_count l.problem;
  -- no process has a fault
  faults : l.scenario.faults ≡ replicate (process_count l.problem) 0;
  -- the conditions so far have the values of the standings
  given : (c : ℕ) → c < l.condition →
      get_or l.scenario.values c false ≡ is_set (get_or l.standings (process_of l.problem c) None);
}
