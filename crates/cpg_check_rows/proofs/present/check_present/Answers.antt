-- Proof of `check_present`: the first violation of V3, by item, with the least scenario in the urgency order in which
-- it occurs: the item is active and no column of its row matches.
use Rattle.std.proofs.Common.{◌≡◌, false, ◌<◌, ap, arith, sym}
use Rattle.cpg_base.specs.Graph.{item_count}
use Rattle.cpg_base.specs.Scenario.{Scenario, IsScenario}
use Rattle.cpg_head.specs.GraphHead.{head_of}
use Rattle.cpg_violation.proofs.HeadLaws.{tables_of_graph}
use Rattle.cpg_table.specs.Lawful.{AreTablesOf}
use Rattle.cpg_table.specs.Table.{columns_of}
use Rattle.cpg_table.specs.declared.rule.Rule.{Rule}
use Rattle.cpg_check_rows.specs.Present.{is_absent}
use Rattle.cpg_violation.proofs.Marked.{marked_more}
use Rattle.cpg_violation.proofs.Violations.{columns_known}
use Rattle.cpg_check_rows.proofs.PresentLaws.{present_more}
use Rattle.cpg_check_rows.proofs.present.check_present.Goals as goal

-- the columns of tables of the graph are on its variables
pub least_absent-requires-clause-columns : goal.least_absent-requires-clause-columns
least_absent-requires-clause-columns c =
    let are : AreTablesOf (head_of c.args.admitted.now.graph) c.args.tables.now.nodes =
    tables_of_graph c.args.admitted.now.graph c.args.tables.now.head c.args.tables.now.nodes c.requires.head
    c.columns_of-columns.ensures.lawful in
    rw c.columns_of-columns.ensures.columns
    (columns_known c.problem-problem.ensures.admitted c.args.tables.now.nodes are c.loop-item.item)

-- the next item is never active without a column, so none of one item more breaks V3
pub loop-item-preserved : goal.loop-item-preserved
loop-item-preserved c =
    let graph = c.args.admitted.now.graph in
    let none : (s : Scenario) → IsScenario graph s →
    is_absent graph (columns_of c.args.tables.now.nodes c.loop-item.item) c.loop-item.item s ≡ false =
    rw (← c.columns_of-columns.ensures.columns) (rw c.in_default.is at c.in_ok-absent.ensures) in
    present_more graph c.args.tables.now.nodes c.loop-item.item c.loop-item.invariant none

-- the next item is marked as sure, so none of one item more breaks V3
pub loop-item-preserved-then-is_marked : goal.loop-item-preserved-then-is_marked
loop-item-preserved-then-is_marked c =
    let graph = c.args.admitted.now.graph in
    let below : c.loop-item.item < item_count graph = omega (
      arith,
      c.loop-item-test.true,
      c.item_count-item-end.ensures,
      ap item_count c.problem-problem.ensures.problem,
    ) in
    marked_more graph c.args.tables.now.nodes Rule.Present c.args.marks.now c.requires.marks c.loop-item.item below
    (sym c.if-is_marked.ensures) c.loop-item.invariant
