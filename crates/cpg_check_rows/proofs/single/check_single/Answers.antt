-- Proof of `check_single`: the first violation of V2, by item and column, with the least scenario in the urgency order
-- in which it occurs: the column and an earlier one of its row both match.
use Rattle.std.proofs.Common.{◌≡◌, ◌<◌, ap, false, ℕ, arith, refl, sym}
use Rattle.cpg_base.specs.Graph.{item_count}
use Rattle.cpg_base.specs.Scenario.{Scenario, IsScenario}
use Rattle.cpg_violation.specs.Violation.{IsFirstColumn}
use Rattle.cpg_check_rows.specs.Single.{is_double}
use Rattle.cpg_head.specs.GraphHead.{head_of}
use Rattle.cpg_violation.proofs.HeadLaws.{tables_of_graph}
use Rattle.cpg_table.specs.Lawful.{AreTablesOf}
use Rattle.cpg_table.specs.Table.{columns_of}
use Rattle.cpg_table.specs.declared.rule.Rule.{Rule}
use Rattle.cpg_table.proofs.RowColumns.{columns_few}
use Rattle.cpg_violation.proofs.Marked.{marked_more}
use Rattle.cpg_violation.proofs.Violations.{long_order, columns_known, none_more, first_violation}
use Rattle.cpg_check_rows.proofs.single.check_single.Goals as goal

-- the urgency order has each process
pub first_double-requires-clause-order : goal.first_double-requires-clause-order
first_double-requires-clause-order c =
    rw (c.order-order.ensures.order, c.problem-problem.ensures.problem) (long_order c.order-order.ensures.admitted)

-- the columns of tables of the graph are on its variables
pub first_double-requires-clause-columns : goal.first_double-requires-clause-columns
first_double-requires-clause-columns c =
    let are : AreTablesOf (head_of c.args.admitted.now.graph) c.args.tables.now.nodes =
    tables_of_graph c.args.admitted.now.graph c.args.tables.now.head c.args.tables.now.nodes c.requires.head
    c.columns_of-columns.ensures.lawful in
    rw (c.problem-problem.ensures.problem, c.columns_of-columns.ensures.columns)
    (columns_known c.order-order.ensures.admitted c.args.tables.now.nodes are c.loop-item.item)

-- a row of lawful tables has at most `MOST_LOAD` columns
pub first_double-requires-clause-few : goal.first_double-requires-clause-few
first_double-requires-clause-few c = rw c.columns_of-columns.ensures.columns
    (columns_few c.args.tables.now.head c.args.tables.now.nodes c.columns_of-columns.ensures.lawful c.loop-item.item)

-- no earlier item breaks V2, so the first column of this one that does is the first violation
pub returns-in-Some-clause-first : goal.returns-in-Some-clause-first
returns-in-Some-clause-first c =
    let graph = c.args.admitted.now.graph in
    let first : IsFirstColumn graph c.args.admitted.now.order
    (is_double (columns_of c.args.tables.now.nodes c.loop-item.item)) (c.in-Some.column, c.in-Some.scenario) =
    rw (← c.problem-problem.ensures.problem, ← c.order-order.ensures.order, ← c.columns_of-columns.ensures.columns)
    (rw c.in-Some.is at c.in_ok-double.ensures.first) in
    first_violation Rule.Single graph c.args.tables.now.nodes c.loop-item.item
    (λ y s. refl) c.number.result c.number.ensures c.args.admitted.now.order c.in-Some.column c.in-Some.scenario
    (omega (
      arith,
      c.loop-item-test.true,
      c.item_count-item-end.ensures,
      ap item_count c.problem-problem.ensures.problem,
    )) c.loop-item.invariant first

-- no column of the next item breaks V2, so none of one item more does
pub loop-item-preserved : goal.loop-item-preserved
loop-item-preserved c =
    let graph = c.args.admitted.now.graph in
    let none : (i : ℕ) (s : Scenario) → IsScenario graph s →
    is_double (columns_of c.args.tables.now.nodes c.loop-item.item) i s ≡ false =
    rw (← c.problem-problem.ensures.problem, ← c.columns_of-columns.ensures.columns)
    (rw c.in_default.is at c.in_ok-double.ensures.none) in
    none_more Rule.Single graph c.args.tables.now.nodes c.loop-item.item (λ y s. refl) c.loop-item.invariant none

-- the next item is marked as sure, so none of one item more breaks V2
pub loop-item-preserved-then-is_marked : goal.loop-item-preserved-then-is_marked
loop-item-preserved-then-is_marked c =
    let graph = c.args.admitted.now.graph in
    let below : c.loop-item.item < item_count graph = omega (
      arith,
      c.loop-item-test.true,
      c.item_count-item-end.ensures,
      ap item_count c.problem-problem.ensures.problem,
    ) in
    marked_more graph c.args.tables.now.nodes Rule.Single c.args.marks.now c.requires.marks c.loop-item.item below
    (sym c.if-is_marked.ensures) c.loop-item.invariant
