-- Proof of `judged`, which checks tables for an admitted graph, and hands the graph back if they have its head and
-- keep the ten rules.
use Rattle.cpg_table.specs.Valid.{IsValid}
use Rattle.cpg_table.proofs.GraphTables.{has_shape}
use Rattle.cpg_violation.specs.Heads.{IsHeadFor}
use Rattle.cpg_violation.proofs.HeadLaws.{tables_of_graph}
use Rattle.cpg_app.proofs.Safe.{valid_are_safe}
use Rattle.cpg_app.proofs.work.judged.Goals as goal

-- the tables are valid, and valid tables are safe
pub returns-in-Ok-Yes-clause-safe : goal.returns-in-Ok-Yes-clause-safe
returns-in-Ok-Yes-clause-safe c =
    let graph = c.args.admitted.graph in
    let tables = c.args.tables.now in
    let shown : IsHeadFor graph tables.head × IsValid graph tables.nodes =
    rw c.in-Ok-Yes.field-0-is at c.in-Ok-Yes.ensures in
    let shape = has_shape graph c.problem-graph.ensures.admitted.limits tables.nodes
    (tables_of_graph graph tables.head tables.nodes shown.0 c.head-head.ensures.lawful) in
    record {
      head = shown.0;
      safe = valid_are_safe graph c.problem-graph.ensures.admitted.well_formed tables.nodes shape shown.1;
    }
