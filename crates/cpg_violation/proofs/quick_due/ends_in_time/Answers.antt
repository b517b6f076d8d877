-- Proof of `ends_in_time`: whether an execution that a column starts ends by its process's due in every scenario that
-- the column matches.
use Rattle.std.proofs.Common.{◌≤◌, ◌+◌, arith}
use Rattle.cpg_violation.proofs.SpaceLaws.{lies_in, not_none}
use Rattle.cpg_violation.proofs.SureLaws.{on_le}
use Rattle.cpg_violation.proofs.TimeLaws.{by_due}
use Rattle.cpg_violation.proofs.quick_due.ends_in_time.Goals as goal

-- the column has no space, so no scenario of the graph matches it
pub returns-in_default : goal.returns-in_default
returns-in_default c s lawful matched =
    absurd (not_none c.args.problem.now c.faults.result c.faults.ensures.faults s lawful c.args.column.now.cube
    c.literals.result.now c.literals.ensures.literals matched c.of.result c.in_default.is
    c.of.ensures.none)

-- a scenario that the column matches lies in the space, where the longest execution ends by the due
pub returns : goal.returns
returns c = on_le c.saturating_add-end.result c.due.result (λ by_due_test s lawful matched.
    let graph = c.args.problem.now in
    let process = c.args.process in
    -- the scenario lies in the space, and the sum didn't saturate, as a due is far below the greatest number
    let lies = lies_in graph c.faults.result c.faults.ensures.faults s lawful c.args.column.now.cube
    c.literals.result.now
    c.literals.ensures.literals matched c.of.result c.in-Some.space c.in-Some.is
    c.of.ensures.lies in
    let end : c.args.column.now.time + c.longest.result ≤ c.due.result = by_due graph c.faults.ensures.within process
    (c.args.column.now.time + c.longest.result) c.saturating_add-end.result c.due.result c.saturating_add-end.ensures
    c.due.ensures by_due_test in
    omega (arith, c.longest.ensures.most s lawful lies, end, c.due.ensures))
