-- Proof of `least_where` and `least_at`: the least scenario of a cube in which a guard's process is active, or isn't.
use Rattle.std.proofs.Common.{rules, ◌≡◌, subst, Some, List, map, Bor}
use Rattle.cpg_cube.specs.declared.literal.Literal.{Literal}
use Rattle.cpg_cube.specs.Fit.{IsKnown}
use Rattle.cpg_cube.specs.Narrow.{with_literal}
use Rattle.cpg_cube.proofs.CubeLaws.{with-is}
use Rattle.cpg_cube.proofs.Narrow.{known-narrowed}
use Rattle.cpg_violation.proofs.ActiveWhere.{at_test, where_holds}
use Rattle.cpg_violation.proofs.Violations.{long_order}
use Rattle.cpg_violation.proofs.activity.+activity.Goals as goal

-- what the list's references point to
abbrev seen : Bor (List Literal) → List Literal
seen b = b.now

-- the order of an admitted graph has each of its processes
pub least_at-uncovered-requires-clause-order : goal.least_at-uncovered-requires-clause-order
least_at-uncovered-requires-clause-order t c =
    rw (c.order-order.ensures.order, c.problem-problem.ensures.problem) (long_order c.order-order.ensures.admitted)

-- the order of an admitted graph has each of its processes
pub least_at-earlier-requires-clause-order : goal.least_at-earlier-requires-clause-order
least_at-earlier-requires-clause-order t c =
    rw (c.order-order.ensures.order, c.problem-problem.ensures.problem) (long_order c.order-order.ensures.admitted)

-- each scenario goes to one side of the test, so the earlier of the answers of the two sides is the least of all
pub least_at-returns-in_ok-second-in-Test : goal.least_at-returns-in_ok-second-in-Test
least_at-returns-in_ok-second-in-Test t c =
    let graph = c.args.admitted.now.graph in
    let by = map seen c.args.by.now in
    rw (c.earlier.ensures, c.in-Test.ensures, c.problem-problem.ensures.problem, c.order-order.ensures.order)
    (at_test graph c.args.admitted.now.order by c.args.wanted c.args.cube.now c.in-Test.condition c.in-Test.no.now
    c.in-Test.yes.now c.in_ok-first-in-Test.first c.in_ok-second-in-Test.second
    (rw c.value_literal-off.ensures at c.in_ok-first-in-Test.ensures)
    (rw c.value_literal-on.ensures at c.in_ok-second-in-Test.ensures))

-- the cube stays on variables of the graph when the literal narrows it
pub least_where-least_at-requires : goal.least_where-least_at-requires
least_where-least_at-requires t c =
    let graph = c.args.admitted.now.graph in
    let some : with_literal c.args.literal c.args.cube.now ≡ Some c.in-Some.part = search rules in
    let part : IsKnown graph c.in-Some.part =
    subst (IsKnown graph) (with-is c.args.literal c.args.cube.now c.in-Some.part some)
    (known-narrowed graph c.args.literal c.args.cube.now c.requires.literal c.requires.cube) in
    (search rules, (c.requires.tree, (part, c.requires.list)))

-- `least_at` was asked of the part, which has exactly the scenarios of the cube in which the literal holds
pub least_where-returns : goal.least_where-returns
least_where-returns t c =
    where_holds c.args.admitted.now.graph c.args.admitted.now.order (map seen c.args.by.now) c.args.wanted
    c.args.cube.now c.args.literal c.args.tree.now c.in-Some.part c.in_ok-found.found
    (rw c.in-Some.is at c.in_ok-part.ensures.both) c.in_ok-found.ensures
