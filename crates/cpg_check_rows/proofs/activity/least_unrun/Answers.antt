-- Proof of `least_unrun`: the least scenario that a cube matches and in which the process of one of its literals isn't
-- active.
use Rattle.std.proofs.Common.{◌≡◌, ◌<◌, ◌≤◌, not, ap, arith, length}
use Rattle.std.proofs.lemmas.List.{take_all}
use Rattle.cpg_base.specs.Activity.{active}
use Rattle.cpg_base.specs.Graph.{process_of_variable}
use Rattle.cpg_cube.specs.Cube.{matches}
use Rattle.cpg_violation.proofs.Columnwise.{first_any_more}
use Rattle.cpg_violation.proofs.Violations.{long_order}
use Rattle.cpg_check_rows.proofs.activity.least_unrun.Goals as goal

-- the urgency order has each process
pub earlier-found-requires-clause-order : goal.earlier-found-requires-clause-order
earlier-found-requires-clause-order c =
    rw (c.order-order.ensures.order, c.problem-problem.ensures.problem) (long_order c.order-order.ensures.admitted)

-- the earlier of the answer so far and the next literal's is the least for one literal more
pub loop-literal-preserved : goal.loop-literal-preserved
loop-literal-preserved c =
    let graph = c.args.admitted.now.graph in
    let cube = c.args.cube.now in
    let literals : c.literals-literal-items.result.now ≡ cube = c.literals-literal-items.ensures.literals in
    let within : c.loop-literal.literal-index < length cube =
    omega (arith, c.loop-literal-test.true, ap length literals) in
    -- the answer for the next literal, said of the graph
    let process = c.process_of_variable-process.ensures.process in
    let next = rw (process, c.problem-problem.ensures.problem, literals) at c.in_ok-next.ensures in
    rw (c.earlier-found.ensures, c.problem-problem.ensures.problem, c.order-order.ensures.order)
    (first_any_more graph c.args.admitted.now.order (matches cube)
    (λ s l. not (active graph s.values (process_of_variable graph l.variable))) cube c.loop-literal.literal-index
    (record { variable = 0; low = 0; high = 0 }) within
    c.loop-literal.found c.in_ok-next.next c.loop-literal.invariant next)

-- after all literals the scenario is the least for any of them
pub returns : goal.returns
returns c =
    let literals : c.literals-literal-items.result.now ≡ c.args.cube.now = c.literals-literal-items.ensures.literals in
    let past : length c.args.cube.now ≤ c.loop-literal.literal-index =
    omega (arith, c.loop-literal-test.false, ap length literals) in
    rw (take_all c.loop-literal.literal-index c.args.cube.now past) at c.loop-literal.invariant
