-- Proof of `set_faults`, which sets the fault count of each process to the given one, or to 0.
use Rattle.std.proofs.Common.{rules, ℕ, pos, ◌+◌, ◌<◌, ◌≡◌, ◌⊎◌, w64, true, false, List, length, map, sum_by, sym, ap}
use Rattle.std.proofs.Common.{subst, ◌∙◌, arith}
use Rattle.toml.specs.View.{table_view}
use Rattle.cpg_base.specs.Numbers.{numbers_below}
use Rattle.cpg_base.specs.Graph.{process_count}
use Rattle.cpg_base.specs.Scenario.{Scenario}
use Rattle.cpg_base.specs.Natural.{natural}
use Rattle.cpg_scenario.specs.File.{count_given, count_of, is_natural}
use Rattle.cpg_scenario.proofs.Filling.{FilledTo, filled_next, filled_all, below_next, sum_next}
use Rattle.cpg_scenario.proofs.Budget.{scenario_is, budget_broken, budget_kept}
use Rattle.std.proofs.lemmas.Int.{to_z-of_z}
use Rattle.cpg_scenario.proofs.reading.set_faults.Goals as goal

-- this count is below 0 or above what is left of the budget, so the budget isn't kept
pub returns-in_default-clause-kept : goal.returns-in_default-clause-kept
returns-in_default-clause-kept c =
    let more = c.loop-process-test.true in
    sym (budget_broken c.args.problem.now
    (table_view c.args.document.now) c.loop-process.process c.loop-process.left c.count_given.result
    (omega (arith, ap length c.processes.ensures.processes)) c.count_given.ensures c.loop-process.invariant.total
    (subst (λ z. (is_natural z ≡ false) ⊎ (c.loop-process.left < natural z))
    (to_z-of_z w64 c.count_given.result (search rules)) c.in_default.ensures.none))

-- one more process has its count, which is taken from what is left of the budget
pub loop-process-preserved : goal.loop-process-preserved
loop-process-preserved c =
    let more = c.loop-process-test.true in
    let count = count_of c.args.problem.now (table_view c.args.document.now) in
    -- the count that is given is a natural number
    let is : count_given c.args.problem.now (table_view c.args.document.now) c.loop-process.process
    ≡ pos c.in-Some.count = sym c.count_given.ensures ∙
    sym (to_z-of_z w64 c.count_given.result (search rules)) ∙ c.in-Some.ensures.some.0 in
    let counted : count c.loop-process.process ≡ c.in-Some.count = ap natural is in
    -- the counts so far are natural, within the budget, and filled in; no value is changed
    record {
      natural = below_next (λ q. is_natural (count_given c.args.problem.now (table_view c.args.document.now) q) ≡ true)
          c.loop-process.process c.loop-process.invariant.natural (ap is_natural is);
      total = omega
          (arith, sum_next count c.loop-process.process, c.loop-process.invariant.total, c.in-Some.ensures.some.1);
      filled =
          subst (λ (xs : List ℕ). FilledTo count (process_count c.args.problem.now) 0 (c.loop-process.process + 1) xs)
          (sym (ap (λ (s : Scenario). s.faults) c.set_fault.ensures))
          (filled_next count
          (process_count c.args.problem.now) 0 c.loop-process.process c.loop-process.scenario.faults c.in-Some.count
          (omega (arith, ap length c.processes.ensures.processes)) (sym counted) c.loop-process.invariant.filled);
      values = ap (λ (s : Scenario). s.values) c.set_fault.ensures ∙ c.loop-process.invariant.values;
    }

-- all counts have been within what was left of the budget, so the budget is kept
pub returns-clause-kept : goal.returns-clause-kept
returns-clause-kept c =
    let done = c.loop-process-test.false in
    let count : c.loop-process.process ≡ process_count c.args.problem.now =
    omega (arith, ap length c.processes.ensures.processes) in
    sym (budget_kept c.args.problem.now (table_view c.args.document.now) c.loop-process.left
    (λ q l. c.loop-process.invariant.natural q (omega arith))
    (subst (λ n. c.loop-process.left + sum_by (count_of c.args.problem.now (table_view c.args.document.now))
    (numbers_below n) ≡ c.args.problem.now.faults) count c.loop-process.invariant.total))

-- all counts are filled in, so these are the faults of the document
pub returns-clause-faults : goal.returns-clause-faults
returns-clause-faults c =
    let done = c.loop-process-test.false in
    scenario_is c.loop-process.scenario c.args.scenario.now.values (map (count_of c.args.problem.now
    (table_view c.args.document.now)) (numbers_below (process_count c.args.problem.now)))
    c.loop-process.invariant.values
    (filled_all (count_of c.args.problem.now (table_view c.args.document.now))
    (process_count c.args.problem.now) 0 c.loop-process.process c.loop-process.scenario.faults
    (omega (arith, ap length c.processes.ensures.processes)) c.loop-process.invariant.filled)
