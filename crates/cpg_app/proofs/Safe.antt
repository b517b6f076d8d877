-- Valid tables are safe, and so are those of a compilation.
use Rattle.std.proofs.Common.{List, ℕ}
use Rattle.cpg_base.specs.Graph.{Graph}
use Rattle.cpg_base.specs.WellFormed.{WellFormed}
use Rattle.cpg_cluster.proofs.Plays.{valid_tables_are_correct}
use Rattle.cpg_cluster.proofs.Lively.{valid_tables_are_lively}
use Rattle.cpg_cluster.proofs.Steady.{valid_tables_are_steady}
use Rattle.cpg_cluster.proofs.Ends.{valid_tables_end_as_planned}
use Rattle.cpg_table.specs.Shape.{HasShape}
use Rattle.cpg_table.specs.Table.{NodeTable}
use Rattle.cpg_table.specs.Valid.{IsValid}
use Rattle.cpg_core.specs.declared.compiling.Compiled.{Compiled}
use Rattle.cpg_core.specs.Compilation.{IsCompilation}
use Rattle.cpg_app.specs.Outputs.{AreSafe}

-- valid tables of a well-formed graph are safe
pub valid_are_safe : (g : Graph) → WellFormed g → (nodes : List NodeTable) → HasShape g nodes → IsValid g nodes →
    AreSafe g nodes
valid_are_safe g formed nodes shape valid = record {
  valid = valid;
  correct = valid_tables_are_correct g nodes formed shape valid;
  lively = valid_tables_are_lively g nodes formed shape valid;
  steady = valid_tables_are_steady g nodes formed shape valid;
  planned = valid_tables_end_as_planned g nodes formed shape valid;
}

-- the tables that a compile makes, those of compilation `c`, are safe
pub compilations_are_safe : (g : Graph) → WellFormed g → (urgency : List ℕ) (c : Compiled) → IsCompilation g urgency c →
    AreSafe g c.built.tables.nodes
compilations_are_safe g formed urgency c is = valid_are_safe g formed c.built.tables.nodes is.built.shape is.valid
