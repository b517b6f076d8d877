-- Proof of `has_conditions`: whether each process that is given a value has a condition.
use Rattle.std.proofs.Common.{sym, ap, length, arith}
use Rattle.toml.specs.View.{table_view}
use Rattle.cpg_base.specs.Graph.{process_count}
use Rattle.cpg_scenario.specs.File.{may_have_value}
use Rattle.cpg_scenario.proofs.Filling.{all_pass, one_fails}
use Rattle.cpg_scenario.proofs.reading.has_conditions.Goals as goal

-- all processes have been visited, and each that is given a value has a condition
pub returns : goal.returns
returns c =
    let done = c.loop-process-test.false in
    sym (all_pass (may_have_value c.args.problem.now (table_view c.args.document.now))
    (process_count c.args.problem.now)
    (λ q l. c.loop-process.invariant q (omega (arith, ap length c.processes.ensures.processes))))

-- this process is given a value and has no condition
pub returns-then-not-may_have_value : goal.returns-then-not-may_have_value
returns-then-not-may_have_value c =
    let more = c.loop-process-test.true in
    sym (one_fails (may_have_value c.args.problem.now (table_view c.args.document.now))
    (process_count c.args.problem.now) c.loop-process.process
    (omega (arith, ap length c.processes.ensures.processes)) (sym c.if-not-may_have_value.ensures))
