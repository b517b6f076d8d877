-- Proof of `Hearing::least_of_bounds`: the least scenario that a column matches and in which a node hasn't been told
-- one of these bounds by its time.
use Rattle.std.proofs.Common.{not}
use Rattle.cpg_cube.specs.Cube.{matches}
use Rattle.cpg_violation.proofs.Columnwise.{first_any_more}
use Rattle.cpg_violation.proofs.Violations.{long_order}
use Rattle.cpg_check_heard.specs.Bounds.{is_told}
use Rattle.cpg_check_heard.proofs.hearing.Hearing.least_of_bounds.Goals as goal

-- the urgency order has each process
pub earlier-found-requires-clause-order : goal.earlier-found-requires-clause-order
earlier-found-requires-clause-order c =
    rw (c.order-order.ensures.order, c.problem-problem.ensures.problem) (long_order c.order-order.ensures.admitted)

-- the earlier of the answer so far and the next bound's is the least for one bound more
pub loop-bound-preserved : goal.loop-bound-preserved
loop-bound-preserved c =
    let graph = c.args.self.now.admitted.now.graph in
    let tables = c.args.self.now.tables.now.nodes in
    rw (c.earlier-found.ensures, c.problem-problem.ensures.problem, c.order-order.ensures.order)
    (first_any_more graph c.args.self.now.admitted.now.order (matches c.args.column.now.cube)
    (λ s b. not (is_told graph tables c.args.node c.args.column.now.time b s)) c.args.bounds.now
    c.loop-bound.bound-index _ c.loop-bound-test.true
    c.loop-bound.found c.in_ok-next.next c.loop-bound.invariant c.in_ok-next.ensures)
