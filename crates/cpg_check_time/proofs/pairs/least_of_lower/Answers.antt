-- Proof of `least_of_lower`: the least scenario in which a column of an item clashes with some column of an item with a
-- lower number, as `pairs` judges.
use Rattle.std.proofs.Common.{◌≡◌, arith, subst}
use Rattle.std.specs.List.{list_any}
use Rattle.cpg_base.specs.Numbers.{numbers_below}
use Rattle.cpg_base.specs.First.{IsFirst}
use Rattle.cpg_violation.proofs.Violations.{long_order}
use Rattle.cpg_check_time.proofs.Seeking.{first_below}
use Rattle.cpg_check_time.proofs.pairs.least_of_lower.Goals as goal

-- the urgency order has each process
pub earlier-found-requires-clause-order : goal.earlier-found-requires-clause-order
earlier-found-requires-clause-order g c =
    rw (c.order-order.ensures.order, c.problem-problem.ensures.problem) (long_order c.order-order.ensures.admitted)

-- the earlier of the scenario so far and the next item's is the least for one lower item more
pub loop-other-preserved : goal.loop-other-preserved
loop-other-preserved g c = rw (c.earlier-found.ensures, c.problem-problem.ensures.problem, c.order-order.ensures.order)
    (first_below c.args.admitted.now.graph c.args.admitted.now.order (g.P.ColumnPairs.clash c.args.admitted.now.graph
    c.args.tables.now.nodes c.args.item c.args.column.now) c.loop-other.other
    c.loop-other.found c.in_ok-next.next c.loop-other.invariant c.in_ok-next.ensures)

-- the loop has gone over all items of lower numbers, so the scenario is the least for any of them
pub returns : goal.returns
returns g c =
    let same : c.loop-other.other ≡ c.args.item = omega (arith, c.loop-other.auto.other-end, c.loop-other-test.false) in
    subst (λ n. IsFirst c.args.admitted.now.graph c.args.admitted.now.order
    (λ s. list_any (λ y. g.P.ColumnPairs.clash c.args.admitted.now.graph c.args.tables.now.nodes c.args.item
    c.args.column.now y s) (numbers_below n)) c.loop-other.found) same
    c.loop-other.invariant
