-- Proof of `is_sure`: whether V1 is known to hold at an item.
use Rattle.std.proofs.Common.{◌≡◌, All, true, false, subst}
use Rattle.std.proofs.lemmas.Bool.{OnTrue_at}
use Rattle.cpg_base.specs.Scenario.{Scenario, IsScenario}
use Rattle.cpg_cube.specs.Cube.{matches}
use Rattle.cpg_head.specs.GraphHead.{head_of}
use Rattle.cpg_table.specs.Lawful.{AreTablesOf}
use Rattle.cpg_cube.specs.declared.column.Column.{Column}
use Rattle.cpg_table.specs.Valid.{breaks_activity}
use Rattle.cpg_tree.proofs.Passes.{of_true}
use Rattle.cpg_violation.proofs.HeadLaws.{tables_of_graph}
use Rattle.cpg_violation.proofs.Violations.{columns_known}
use Rattle.cpg_check_rows.proofs.LawfulRows.{always_sure, lawful_sure}
use Rattle.cpg_check_rows.proofs.quick_activity.is_sure.Goals as goal

-- the columns of tables of the graph are on its variables
pub are_lawful-requires-clause-columns : goal.are_lawful-requires-clause-columns
are_lawful-requires-clause-columns c =
    let are : AreTablesOf (head_of c.args.admitted.now.graph) c.args.tables.now.nodes =
    tables_of_graph c.args.admitted.now.graph c.args.tables.now.head c.args.tables.now.nodes c.requires.head
    c.columns_of-columns.ensures.lawful in
    rw c.columns_of-columns.ensures.columns
    (columns_known c.problem-problem.ensures.admitted c.args.tables.now.nodes are c.args.item)

-- all processes and the item are always active, so the item keeps V1
pub returns-then-is_plain : goal.returns-then-is_plain
returns-then-is_plain c =
    let graph = c.args.admitted.now.graph in
    let admitted = c.problem-problem.ensures.admitted in
    let are : AreTablesOf (head_of graph) c.args.tables.now.nodes = tables_of_graph graph c.args.tables.now.head
    c.args.tables.now.nodes c.requires.head c.columns_of-columns.ensures.lawful in
    always_sure graph c.args.tables.now.nodes c.args.item admitted.limits.few_processes
    (OnTrue_at c.if-is_plain.true c.is_plain.ensures.all)
    (columns_known admitted c.args.tables.now.nodes are c.args.item)
    (OnTrue_at c.if-is_plain.true c.is_plain.ensures.item)

-- if no column of the row breaks V1 in a scenario that it matches, the item keeps V1
pub returns : goal.returns
returns c =
    let graph = c.args.admitted.now.graph in
    of_true c.are_lawful.result c.are_lawful.ensures (λ all. lawful_sure graph c.args.tables.now.nodes c.args.item
    (subst (λ xs. All (λ (d : Column). (s : Scenario) → IsScenario graph s → matches d.cube s ≡ true →
    breaks_activity graph s c.args.item d ≡ false) xs) c.columns_of-columns.ensures.columns all))
