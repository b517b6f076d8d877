-- Proof of `least_left`: the least scenario that a cube matches and none of the cubes `told` does.
use Rattle.cpg_violation.proofs.Violations.{long_order}
use Rattle.cpg_check_heard.proofs.Untolds.{first_left}
use Rattle.cpg_check_heard.proofs.hearing.least_left.Goals as goal

-- the urgency order has each process
pub covers-requires-clause-order : goal.covers-requires-clause-order
covers-requires-clause-order c =
    rw (c.order-order.ensures.order, c.problem-problem.ensures.problem) (long_order c.order-order.ensures.admitted)

-- the scenario that the search found is the least that the list leaves of the cube; if it found none, none is left
pub returns : goal.returns
returns c = rw (← c.problem-problem.ensures.problem, ← c.order-order.ensures.order)
    (first_left c.problem-problem.result.now c.order-order.result.now c.args.cube.now c.args.told.now
    c.in_ok-found.found c.in_ok-found.ensures.covered c.in_ok-found.ensures.least)
