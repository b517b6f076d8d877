-- Proof of `executions`: the rows of all processes, with how long their executions last.
use Rattle.std.proofs.Common.{◌≡◌, ◌∙◌, ap}
use Rattle.cpg_base.specs.Graph.{Graph}
use Rattle.cpg_violation.proofs.SpaceLaws.{few_of}
use Rattle.cpg_check_quick.specs.Order.{execution}
use Rattle.cpg_check_quick.proofs.OrderLaws.{rows_more}
use Rattle.cpg_check_quick.proofs.spanned_rows.executions.Goals as goal

-- the row that is added is that of the next process, with the span of its executions
pub loop-process-preserved : goal.loop-process-preserved
loop-process-preserved c = rw c.in_ok-push.ensures.items
    (rows_more (execution c.args.admitted.now.graph) c.args.admitted.now.graph c.args.tables.now.nodes
    c.loop-process.process c.loop-process.list.items c.spanned_row_of.result c.loop-process.invariant
    (c.spanned_row_of.ensures (execution c.args.admitted.now.graph c.loop-process.process)
    (rw c.problem-problem.ensures.problem at c.of_execution-span.ensures)))

-- the space has all scenarios of the graph, and the loop made a row for each process
pub returns-clause-rows : goal.returns-clause-rows
returns-clause-rows c =
    let graph = c.args.admitted.now.graph in
    let faults : c.faults.result ≡ graph.faults =
    c.faults.ensures.faults ∙ ap (λ (h : Graph). h.faults) c.problem-problem.ensures.problem in
    record {
      everywhere = record { lies = λ s law. c.whole.ensures.lies s (few_of graph c.faults.result faults s law) };
      each = c.loop-process.invariant.each;
    }
