-- Proof of `play`, which returns the text of a play of tables if they are safe for an admitted graph.
use Rattle.std.proofs.Common.{ap, subst, sym}
use Rattle.cpg_base.specs.Graph.{Graph}
use Rattle.cpg_rules.specs.Admission.{Admission}
use Rattle.cpg_head.specs.GraphHead.{head_of}
use Rattle.cpg_table.specs.Lawful.{AreTablesOf}
use Rattle.cpg_violation.proofs.HeadLaws.{tables_of_graph}
use Rattle.cpg_app.proofs.work.play.Goals as goal

-- the tables have the head of the graph
pub play_text-requires-clause-tables : goal.play_text-requires-clause-tables
play_text-requires-clause-tables c =
    let tables = c.args.tables in
    subst (λ (h : Graph). AreTablesOf (head_of h) tables.nodes)
    (sym (ap (λ (a : Admission). a.graph) c.in_ok-admitted.ensures.same))
    (tables_of_graph c.args.admitted.graph tables.head tables.nodes c.in_ok-admitted.ensures.safe.head
    c.head-head.ensures.lawful)
