-- Tables of carrying rows are exact, and keep the rules; their rows have no more columns than the items have views.
use Rattle.std.proofs.Common.{ℕ, ◌<◌, ◌≤◌, ◌≢◌, List, Contains, All, Option, Some, length, sym, subst, arith}
use Rattle.cpg_base.specs.Graph.{Graph, process_count, item_count}
use Rattle.cpg_order.specs.Reach.{Reach, IsReach, reach_of, views}
use Rattle.cpg_cube.specs.declared.literal.Literal.{Literal}
use Rattle.cpg_merging.specs.Merged.{IsMerged}
use Rattle.cpg_table.specs.Table.{NodeTable, columns_of}
use Rattle.cpg_cube.specs.declared.column.Column.{Column}
use Rattle.cpg_table.specs.declared.rule.Rule.{Rule}
use Rattle.cpg_run.specs.Exact.{IsFormed, IsExact}
use Rattle.cpg_run.specs.Laws.{Keeps}
use Rattle.cpg_run.proofs.Rules.{run_tables_keep_rules}
use Rattle.cpg_run.proofs.RowLaw.{columns_within_views}
use Rattle.cpg_run.proofs.RowRules.{row_keeps}
use Rattle.cpg_run.specs.Carried.{row_at}
use Rattle.cpg_run.proofs.AllRules.{all_rules}
use Rattle.cpg_run.proofs.EntriesMerge.{every}
use Rattle.cpg_run.specs.Carrying.{AreTablesCarrying, CarryingTablesAreLawful}
use Rattle.cpg_run.proofs.CarryingKnown.{run_times, run_tables, supported}
use Rattle.cpg_run.proofs.CarryingReach.{rows_in_reach}

-- given: tables whose columns are carrying rows, and the reach of the graph
-- `z`: the columns of the tables are the rows, and each row carries no more than it may. `is`: r is the graph's
-- reach, the variables on which the time of an item may depend.
module _ (g : Graph) (urgency order : List ℕ) (frozen : List (Option ℕ)) (rows : List (List Column))
    (tables : List NodeTable) (z : AreTablesCarrying g urgency order frozen rows tables) (r : Reach)
    (is : IsReach g order r) where
  -- each row is formed: its literals are on the item's reach, none is whole, and its columns match something, in
  -- order
  row_formed : (x : ℕ) → x < item_count g → IsFormed g urgency (reach_of r x) (row_at rows x)
  row_formed x below = record {
    in_reach = every (λ (c : Column). All (λ (m : Literal). Contains (reach_of r x) m.variable) c.cube) (row_at rows x)
        (λ c j. every (λ (m : Literal). Contains (reach_of r x) m.variable) c.cube
        (λ m i. rows_in_reach g urgency order frozen z.timed rows z.found r is x below c j m i));
    not_whole = (z.found.each x below).not_whole;
    met = (z.found.each x below).met;
    ordered = (z.found.each x below).ordered;
  }

  -- the tables are exact: they have the times of the runs, and since their columns are the rows, these are formed and merged
  exact : IsExact g urgency order frozen r tables
  exact = record {
    times = run_times g urgency order frozen rows tables z;
    formed = λ x l. subst (IsFormed g urgency (reach_of r x)) (sym (z.columns x)) (row_formed x l);
    merged = λ p l. subst (IsMerged g) (sym (z.columns p)) (z.found.merged p l);
  }

  -- the tables keep all rules but the one on dues
  rules : (rule : Rule) → rule ≢ Rule.Due → Keeps rule g tables
  rules = all_rules g order frozen tables (run_tables g urgency order frozen rows tables z)
      (supported g urgency order frozen rows tables z)

  -- an item has no more columns than its reach has views, as its row is formed and keeps V1 and V2
  within_views : process_count g ≤ 128 → (x : ℕ) → x < item_count g →
      length (columns_of tables x) ≤ views g (reach_of r x)
  within_views few x below = columns_within_views g few (reach_of r x) urgency (columns_of tables x)
      (exact.formed x below)
      (row_keeps g tables x (λ s i lawful.
      (rules Rule.Activity (λ e. cc) s lawful x below (Some i), rules Rule.Single (λ e. cc) s lawful x below (Some i))))

-- tables of carrying rows are exact, supported and lawful, and no wider than the views allow
pub carrying_tables_are_lawful : CarryingTablesAreLawful
carrying_tables_are_lawful g urgency order frozen rows tables r z is = record {
  exact = exact g urgency order frozen rows tables z r is;
  supported = supported g urgency order frozen rows tables z;
  rules = rules g urgency order frozen rows tables z r is;
  dues = (run_tables_keep_rules g order frozen tables (run_tables g urgency order frozen rows tables z)).due;
  views = within_views g urgency order frozen rows tables z r is;
}
