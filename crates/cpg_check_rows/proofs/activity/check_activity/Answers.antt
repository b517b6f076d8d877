-- Proof of `check_activity`: the first violation of V1, by item and column, with the least scenario in the urgency
-- order in which it occurs: the column matches, and the item or the process of one of the column's literals isn't
-- active.
use Rattle.std.proofs.Common.{◌≡◌, ap, false, ℕ, arith, refl, ◌<◌, sym}
use Rattle.cpg_base.specs.Graph.{item_count}
use Rattle.cpg_base.specs.Scenario.{Scenario, IsScenario}
use Rattle.cpg_violation.specs.Violation.{IsFirstColumn}
use Rattle.cpg_check_rows.specs.Active.{is_idle}
use Rattle.cpg_head.specs.GraphHead.{head_of}
use Rattle.cpg_violation.proofs.HeadLaws.{tables_of_graph}
use Rattle.cpg_table.specs.Lawful.{AreTablesOf}
use Rattle.cpg_table.specs.Table.{columns_of}
use Rattle.cpg_table.specs.declared.rule.Rule.{Rule}
use Rattle.cpg_table.proofs.RowColumns.{columns_few}
use Rattle.cpg_violation.proofs.Marked.{marked_more}
use Rattle.cpg_violation.proofs.Violations.{columns_known, none_more, first_violation}
use Rattle.cpg_check_rows.proofs.activity.check_activity.Goals as goal

-- the columns of tables of the graph are on its variables
pub first_idle-requires-clause-columns : goal.first_idle-requires-clause-columns
first_idle-requires-clause-columns c =
    let are : AreTablesOf (head_of c.args.admitted.now.graph) c.args.tables.now.nodes =
    tables_of_graph c.args.admitted.now.graph c.args.tables.now.head c.args.tables.now.nodes c.requires.head
    c.columns_of-columns.ensures.lawful in
    rw c.columns_of-columns.ensures.columns
    (columns_known c.problem.ensures.admitted c.args.tables.now.nodes are c.loop-item.item)

-- a row of lawful tables has at most `MOST_LOAD` columns
pub first_idle-requires-clause-few : goal.first_idle-requires-clause-few
first_idle-requires-clause-few c = rw c.columns_of-columns.ensures.columns
    (columns_few c.args.tables.now.head c.args.tables.now.nodes c.columns_of-columns.ensures.lawful c.loop-item.item)

-- no earlier item breaks V1, so the first column of this one that does is the first violation
pub returns-in-Some-clause-first : goal.returns-in-Some-clause-first
returns-in-Some-clause-first c =
    let graph = c.args.admitted.now.graph in
    let first : IsFirstColumn graph c.args.admitted.now.order
    (is_idle graph c.loop-item.item (columns_of c.args.tables.now.nodes c.loop-item.item)) (
      c.in-Some.column,
      c.in-Some.scenario,
    ) =
    rw (← c.columns_of-columns.ensures.columns) (rw c.in-Some.is at c.in_ok-idle.ensures.first) in
    first_violation Rule.Activity graph c.args.tables.now.nodes c.loop-item.item
    (λ y s. refl) c.number.result c.number.ensures c.args.admitted.now.order c.in-Some.column c.in-Some.scenario
    (omega (arith, c.loop-item-test.true, c.item_count-item-end.ensures, ap item_count c.problem.ensures.problem))
    c.loop-item.invariant first

-- no column of the next item breaks V1, so none of one item more does
pub loop-item-preserved : goal.loop-item-preserved
loop-item-preserved c =
    let graph = c.args.admitted.now.graph in
    let none : (i : ℕ) (s : Scenario) → IsScenario graph s →
    is_idle graph c.loop-item.item (columns_of c.args.tables.now.nodes c.loop-item.item) i s ≡ false =
    rw (← c.columns_of-columns.ensures.columns) (rw c.in_default.is at c.in_ok-idle.ensures.none) in
    none_more Rule.Activity graph c.args.tables.now.nodes c.loop-item.item (λ y s. refl) c.loop-item.invariant none

-- the next item is marked as sure, so none of one item more breaks V1
pub loop-item-preserved-then-is_marked : goal.loop-item-preserved-then-is_marked
loop-item-preserved-then-is_marked c =
    let graph = c.args.admitted.now.graph in
    let below : c.loop-item.item < item_count graph =
    omega (arith, c.loop-item-test.true, c.item_count-item-end.ensures, ap item_count c.problem.ensures.problem) in
    marked_more graph c.args.tables.now.nodes Rule.Activity c.args.marks.now c.requires.marks c.loop-item.item below
    (sym c.if-is_marked.ensures) c.loop-item.invariant
