-- Proof of `asked`, which returns a tree that is true where the guard of some process in the span and before `to` tests
-- the condition on the scenario's way, and false elsewhere.
use Rattle.std.proofs.Common.{◌≡◌, ◌≤◌, true, length, arith, ap, subst}
use Rattle.std.specs.Bool.{OnTrue}
use Rattle.cpg_base.specs.Graph.{process_count}
use Rattle.cpg_tree.specs.Tree.{IsConstant}
use Rattle.cpg_expand.specs.Earlier.{IsAskedTree}
use Rattle.cpg_expand.proofs.EarlierFound.{asked_everywhere}
use Rattle.cpg_expand.proofs.earlier.asked.Goals as goal

-- the tree is true everywhere already, so it is right for all processes
pub returns-then-is_true-clause-asked : goal.returns-then-is_true-clause-asked
returns-then-is_true-clause-asked c =
    let g = c.args.span.now.problem.now in
    let span = c.args.span.now in
    let there : c.loop-other.other ≤ process_count g = omega (
      arith,
      c.loop-other-test.true,
      ap length c.processes.ensures.processes,
      c.processes.ensures.within.few_processes,
    ) in
    asked_everywhere g span.order.now span.guards.now span.node span.from c.args.to c.args.condition c.loop-other.other
    (process_count g) c.loop-other.asked there
    (subst (λ b. OnTrue b (IsConstant true c.loop-other.asked.faults c.loop-other.asked)) c.if-is_true.true
    c.is_true.ensures) c.loop-other.invariant.1

-- the loop is over, so all processes of the graph have been gone over
pub returns-clause-asked : goal.returns-clause-asked
returns-clause-asked c =
    let g = c.args.span.now.problem.now in
    let span = c.args.span.now in
    let all : c.loop-other.other ≡ process_count g =
    omega (
      arith,
      c.loop-other-test.false,
      c.loop-other.auto.other-end,
      ap length c.processes.ensures.processes,
      c.processes.ensures.within.few_processes,
    ) in
    subst (λ n. IsAskedTree g span.order.now span.guards.now span.node span.from c.args.to c.args.condition n
    c.loop-other.asked) all c.loop-other.invariant.1
