-- Proof of `all_end_in_time`: whether an execution ends by its process's due, whichever of these columns starts it.
use Rattle.std.proofs.Common.{ℕ, ◌≡◌, ◌≤◌, ◌+◌, true, arith}
use Rattle.std.proofs.lemmas.Bool.{OnTrue_at}
use Rattle.cpg_base.specs.Duration.{duration, due}
use Rattle.cpg_base.specs.Graph.{Graph}
use Rattle.cpg_base.specs.Scenario.{Scenario, IsScenario, fault_of}
use Rattle.cpg_cube.specs.Cube.{matches}
use Rattle.cpg_cube.specs.declared.column.Column.{Column}
use Rattle.cpg_violation.proofs.SpaceLaws.{few_of}
use Rattle.cpg_violation.proofs.SureLaws.{each_all, each_more}
use Rattle.cpg_violation.proofs.TimeLaws.{by_due}
use Rattle.cpg_violation.proofs.quick_due.all_end_in_time.Goals as goal

-- an execution that column `d` starts ends by the due wherever the column matches
abbrev Ends : Graph → ℕ → Column → Type 0
Ends g p d = (s : Scenario) → IsScenario g s → matches d.cube s ≡ true → d.time + duration g p (fault_of s p) ≤ due g p

-- even the longest execution from the next column ends by the due
pub loop-column-preserved-then-saturating_add-due : goal.loop-column-preserved-then-saturating_add-due
loop-column-preserved-then-saturating_add-due c =
    let graph = c.args.problem.now in
    let process = c.args.process in
    -- the sum didn't saturate, as a due is far below the greatest number
    let end : c.column-item.result.time + c.longest-most.result ≤ c.due-due.result =
    by_due graph c.faults.ensures.within process
    (c.column-item.result.time + c.longest-most.result) c.saturating_add.result c.due-due.result
    c.saturating_add.ensures c.due-due.ensures c.if-saturating_add-due.true in
    each_more (Ends graph process) c.args.columns.now c.loop-column.column-index c.column-item.result
    c.loop-column-test.true c.column-item.is c.loop-column.invariant
    (λ s lawful matched. omega (
      arith,
      c.longest-most.ensures.most s lawful
          (c.whole.ensures.lies s (few_of graph c.faults.result c.faults.ensures.faults s lawful)),
      end,
      c.due-due.ensures,
    ))

-- one more column ends in time, as `ends_in_time` says
pub loop-column-preserved : goal.loop-column-preserved
loop-column-preserved c =
    each_more (Ends c.args.problem.now c.args.process) c.args.columns.now c.loop-column.column-index
    c.column-item.result c.loop-column-test.true c.column-item.is c.loop-column.invariant
    (OnTrue_at c.if-not-ends_in_time.false c.ends_in_time.ensures)

-- the loop has gone over all columns
pub returns : goal.returns
returns c = each_all (Ends c.args.problem.now c.args.process) c.args.columns.now c.loop-column.column-index
    c.loop-column-test.false c.loop-column.invariant
