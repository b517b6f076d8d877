-- Tables with the times of the runs and with supported cubes keep every rule but the one on dues.
use Rattle.std.proofs.Common.{◌≡◌, ◌≢◌, ℕ, ◌&&◌, List, take, Option, Some, None, refl}
use Rattle.std.proofs.lemmas.Bool.{and_right}
use Rattle.cpg_base.specs.Graph.{Graph}
use Rattle.cpg_cube.specs.Cube.{matches}
use Rattle.cpg_table.specs.Table.{NodeTable, columns_of}
use Rattle.cpg_table.specs.declared.rule.Rule.{Rule}
use Rattle.cpg_table.proofs.Columns.{by_column}
use Rattle.cpg_run.specs.Laws.{AreRunTables, Keeps, KeepsRules}
use Rattle.cpg_run.specs.Supported.{Supported}
use Rattle.cpg_run.proofs.Rules.{run_tables_keep_rules}
use Rattle.cpg_run.proofs.Rule1.{keeps-1}
use Rattle.cpg_run.proofs.Rule4.{keeps-4}

-- given: tables with the times of the runs, whose cubes are supported
-- `supported`: each literal of a column that matches lies within what its node has heard.
module _ (g : Graph) (order : List ℕ) (frozen : List (Option ℕ)) (tables : List NodeTable)
    (tables_are : AreRunTables g order frozen tables) (supported : Supported g order tables) where
  -- the tables keep the rules that tables with the times of the runs keep
  kept : KeepsRules g order frozen tables
  kept = run_tables_keep_rules g order frozen tables tables_are

  -- V10 doesn't speak of columns that match
  hears : Keeps Rule.Hears g tables
  hears s law x l None = refl
  hears s law x l (Some i) = by_column Rule.Hears g tables s x i (λ c k m. refl)

  -- every rule but the one on dues is kept
  pub all_rules : (rule : Rule) → rule ≢ Rule.Due → Keeps rule g tables
  all_rules Rule.Activity other = keeps-1 g order frozen tables tables_are supported
  all_rules Rule.Single other = kept.single
  all_rules Rule.Present other = kept.present
  all_rules Rule.Heard other = keeps-4 g order frozen tables tables_are supported
  all_rules Rule.Inputs other = kept.inputs
  all_rules Rule.Processor other = kept.processor
  all_rules Rule.Slot other = kept.slot
  all_rules Rule.Frozen other = kept.frozen_once
  all_rules Rule.Due other = absurd (other refl)
  all_rules Rule.Hears other = hears
