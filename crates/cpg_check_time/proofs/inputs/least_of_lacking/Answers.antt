-- Proof of `least_of_lacking`: the least scenario in which a column matches, and one of these inputs is there only
-- after the column's time.
use Rattle.std.proofs.Common.{subst}
use Rattle.std.specs.List.{list_any}
use Rattle.std.proofs.lemmas.List.{take_all}
use Rattle.cpg_base.specs.First.{IsFirst}
use Rattle.cpg_violation.proofs.Violations.{long_order}
use Rattle.cpg_check_time.specs.Inputs.{lacks_input}
use Rattle.cpg_check_time.proofs.Seeking.{first_more}
use Rattle.cpg_check_time.proofs.inputs.least_of_lacking.Goals as goal

-- the urgency order has each process
pub earlier-found-requires-clause-order : goal.earlier-found-requires-clause-order
earlier-found-requires-clause-order c =
    rw (c.order-order.ensures.order, c.problem-problem.ensures.problem) (long_order c.order-order.ensures.admitted)

-- the earlier of the scenario so far and the next input's is the least for one input more
pub loop-edge-preserved : goal.loop-edge-preserved
loop-edge-preserved c = rw (c.earlier-found.ensures, c.problem-problem.ensures.problem, c.order-order.ensures.order)
    (first_more c.args.admitted.now.graph c.args.admitted.now.order (lacks_input c.args.admitted.now.graph
    c.args.tables.now.nodes c.args.column.now) c.args.edges.now c.loop-edge.edge-index 0
    c.loop-edge-test.true c.loop-edge.found c.in_ok-next.next
    c.loop-edge.invariant c.in_ok-next.ensures)

-- after all inputs it is the least for any of them
pub returns : goal.returns
returns c = subst (λ edges. IsFirst c.args.admitted.now.graph c.args.admitted.now.order
    (λ s. list_any (λ e. lacks_input c.args.admitted.now.graph c.args.tables.now.nodes c.args.column.now e s) edges)
    c.loop-edge.found)
    (take_all c.loop-edge.edge-index c.args.edges.now c.loop-edge-test.false) c.loop-edge.invariant
