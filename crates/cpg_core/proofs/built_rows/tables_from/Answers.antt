-- Proof of `tables_from`, which returns the tables that are assembled from rows. The one error is `OutOfMemory`.
use Rattle.std.proofs.Common.{List, subst, sym}
use Rattle.cpg_base.specs.Graph.{Graph}
use Rattle.cpg_table.specs.Table.{Row}
use Rattle.cpg_table.specs.Writing.{AreTablesWith, AreWritable}
use Rattle.cpg_core.proofs.built_rows.tables_from.Goals as goal

-- the rows can be written for the graph that the problem has
pub tables_of-requires-clause-rows : goal.tables_of-requires-clause-rows
tables_of-requires-clause-rows c = subst (AreWritable c.problem.result.now) (sym c.in_ok-rows.ensures)
    (subst (λ (h : Graph). AreWritable h c.args.rows.items) (sym c.problem.ensures.problem) c.requires)

-- the tables are those of the rows
pub returns : goal.returns
returns c =
    subst (λ (h : Graph). AreTablesWith h c.args.rows.items c.in_ok-tables.tables) c.problem.ensures.problem
    (subst (λ (rows : List Row). AreTablesWith c.problem.result.now rows c.in_ok-tables.tables) c.in_ok-rows.ensures
    c.in_ok-tables.ensures)
