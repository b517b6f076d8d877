-- Proof of `check_heard`: the first violation of V4, by item and column, with the least scenario in the urgency order
-- in which it occurs: the column matches, and one of its literals isn't heard at the item's node by the column's time.
use Rattle.cpg_violation.proofs.HeadLaws.{tables_of_graph}
use Rattle.std.proofs.Common.{◌≡◌, ◌<◌, ap, false, ℕ, Contains, arith, refl, sym}
use Rattle.std.proofs.lemmas.List.Elements.{All-weaker, All-contains_itself}
use Rattle.cpg_base.specs.Graph.{item_count}
use Rattle.cpg_base.specs.Scenario.{Scenario, IsScenario}
use Rattle.cpg_head.specs.GraphHead.{head_of}
use Rattle.cpg_table.specs.Lawful.{AreTablesOf}
use Rattle.cpg_table.specs.Table.{columns_of}
use Rattle.cpg_table.specs.declared.rule.Rule.{Rule}
use Rattle.cpg_violation.specs.Violation.{IsFirstColumn}
use Rattle.cpg_table.proofs.RowColumns.{columns_few}
use Rattle.cpg_violation.proofs.Matching.{literal_active}
use Rattle.cpg_violation.proofs.Marked.{marked_more}
use Rattle.cpg_violation.proofs.Violations.{columns_known, none_more, first_violation}
use Rattle.cpg_check_heard.specs.Ended.{HasActive}
use Rattle.cpg_check_heard.specs.Unheard.{is_unheard}
use Rattle.cpg_check_heard.proofs.heard.check_heard.Goals as goal

-- the graph is admitted, the tables are its and keep V1 to V3, and the telling rows are theirs
pub first_unheard-requires-clause-hearing : goal.first_unheard-requires-clause-hearing
first_unheard-requires-clause-hearing c =
    let are : AreTablesOf (head_of c.args.admitted.now.graph) c.args.tables.now.nodes =
    tables_of_graph c.args.admitted.now.graph c.args.tables.now.head c.args.tables.now.nodes c.requires.head
    c.columns_of-columns.ensures.lawful in
    record {
      admitted = c.problem-problem.ensures.admitted;
      head = c.requires.head;
      tables = are;
      rules = c.requires.rules;
      telling_rows = c.in_ok-telling_rows.ensures c.args.tables.now.nodes c.requires.rows;
    }

-- by V1, the processes of a column's literals are active if it matches
pub first_unheard-requires-clause-active : goal.first_unheard-requires-clause-active
first_unheard-requires-clause-active c =
    let graph = c.args.admitted.now.graph in
    let tables = c.args.tables.now.nodes in
    let item = c.loop-item.item in
    let below : item < item_count graph = omega (
      arith,
      c.loop-item-test.true,
      c.item_count-item-end.ensures,
      ap item_count c.problem-problem.ensures.problem,
    ) in
    rw c.columns_of-columns.ensures.columns (All-weaker (Contains (columns_of tables item)) (HasActive graph)
    (λ d among s l law it_matches there. literal_active graph tables s law item below c.requires.rules d
    among it_matches l there)
    (columns_of tables item) (All-contains_itself (columns_of tables item)))

-- the columns of tables of the graph are on its variables
pub first_unheard-requires-clause-columns : goal.first_unheard-requires-clause-columns
first_unheard-requires-clause-columns c =
    let are : AreTablesOf (head_of c.args.admitted.now.graph) c.args.tables.now.nodes =
    tables_of_graph c.args.admitted.now.graph c.args.tables.now.head c.args.tables.now.nodes c.requires.head
    c.columns_of-columns.ensures.lawful in
    rw c.columns_of-columns.ensures.columns
    (columns_known c.problem-problem.ensures.admitted c.args.tables.now.nodes are c.loop-item.item)

-- a row of lawful tables has at most `MOST_LOAD` columns
pub first_unheard-requires-clause-few : goal.first_unheard-requires-clause-few
first_unheard-requires-clause-few c = rw c.columns_of-columns.ensures.columns
    (columns_few c.args.tables.now.head c.args.tables.now.nodes c.columns_of-columns.ensures.lawful c.loop-item.item)

-- no earlier item breaks V4, so the first unheard column of this one is the first violation
pub returns-in-Some-clause-first : goal.returns-in-Some-clause-first
returns-in-Some-clause-first c =
    let graph = c.args.admitted.now.graph in
    let first : IsFirstColumn graph c.args.admitted.now.order
    (is_unheard graph c.args.tables.now.nodes c.loop-item.item (columns_of c.args.tables.now.nodes c.loop-item.item))
    (c.in-Some.column, c.in-Some.scenario) =
    rw (← c.columns_of-columns.ensures.columns) (rw c.in-Some.is at c.in_ok-unheard.ensures.first) in
    first_violation Rule.Heard graph c.args.tables.now.nodes c.loop-item.item
    (λ y s. refl) c.number.result c.number.ensures c.args.admitted.now.order c.in-Some.column c.in-Some.scenario
    (omega (
      arith,
      c.loop-item-test.true,
      c.item_count-item-end.ensures,
      ap item_count c.problem-problem.ensures.problem,
    )) c.loop-item.invariant first

-- no column of the next item is unheard, so none of one item more breaks V4
pub loop-item-preserved : goal.loop-item-preserved
loop-item-preserved c =
    let graph = c.args.admitted.now.graph in
    let none : (i : ℕ) (s : Scenario) → IsScenario graph s → is_unheard graph c.args.tables.now.nodes c.loop-item.item
    (columns_of c.args.tables.now.nodes c.loop-item.item) i s ≡ false =
    rw (← c.columns_of-columns.ensures.columns) (rw c.in_default.is at c.in_ok-unheard.ensures.none) in
    none_more Rule.Heard graph c.args.tables.now.nodes c.loop-item.item (λ y s. refl) c.loop-item.invariant none

-- the next item is marked as sure, so none of one item more breaks V4
pub loop-item-preserved-then-is_marked : goal.loop-item-preserved-then-is_marked
loop-item-preserved-then-is_marked c =
    let graph = c.args.admitted.now.graph in
    let below : c.loop-item.item < item_count graph = omega (
      arith,
      c.loop-item-test.true,
      c.item_count-item-end.ensures,
      ap item_count c.problem-problem.ensures.problem,
    ) in
    marked_more graph c.args.tables.now.nodes Rule.Heard c.args.marks.now c.requires.marks c.loop-item.item below
    (sym c.if-is_marked.ensures) c.loop-item.invariant
