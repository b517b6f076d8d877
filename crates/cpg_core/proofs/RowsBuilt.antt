-- Rows that are built can be written, and their tables are what a builder answers.
use Rattle.std.proofs.Common.{ℕ, ◌≡◌, ◌∙◌, List, length, sym, ap, subst}
use Rattle.std.proofs.lemmas.List.{length-map}
use Rattle.std.proofs.lemmas.List.FromFn.{length-range_with_len}
use Rattle.cpg_base.specs.Graph.{Graph, item_count}
use Rattle.cpg_order.specs.Urgency.{IsTopological}
use Rattle.cpg_rules.specs.Admission.{IsAdmitted}
use Rattle.cpg_rules.specs.Guards.{Guards}
use Rattle.cpg_table.specs.Lawful.{Tables}
use Rattle.cpg_table.specs.Table.{Row}
use Rattle.cpg_table.specs.Writing.{AreTablesWith, AreWritable}
use Rattle.cpg_run.specs.declared.built.Built.{Built}
use Rattle.cpg_run.specs.Alike.{Admitted}
use Rattle.cpg_run.specs.Built.{IsBuiltFor}
use Rattle.cpg_run.proofs.BuiltTables.{admitted_under, found_tables_are_built}
use Rattle.cpg_run.proofs.Written.{found_rows_are_writable}
use Rattle.cpg_core.specs.BuiltRows.{AreBuiltRows, IsAssembledOf, built_of}
use Rattle.cpg_core.specs.WideRows.{DoTablesFit}
use Rattle.cpg_core.specs.declared.built_rows.BuiltRows.{BuiltRows}
use Rattle.cpg_core.proofs.WideRowsMade.{tables_fit}

-- given: rows that are built under a topological order
-- `is_admitted`, `order`, `topological`: an admitted graph and an order of it; `r`, `are`: the rows that are built
-- under that order
module _ (g : Graph) (urgency : List ℕ) (guards : Guards) (is_admitted : IsAdmitted g urgency guards) (order : List ℕ)
    (topological : IsTopological g order) (r : BuiltRows)
    (are : AreBuiltRows g urgency order r) where
  -- the graph is admitted under this order, too
  admitted : Admitted g urgency order
  admitted = admitted_under g urgency order guards is_admitted topological

  -- rows that are built can be written
  pub built_writable : AreWritable g r.rows.items
  built_writable = found_rows_are_writable g urgency order r.frozen r.rows.items is_admitted.limits admitted are.found
      are.fit

  -- there is a row for each item
  count : length r.rows.items ≡ item_count g
  count = sym (length-map r.rows.items (λ (row : Row). row.item)) ∙ ap length are.found.items
      ∙ length-range_with_len 0 (item_count g)

  -- given: tables with these rows
  module _ (t : Tables) (written : AreTablesWith g r.rows.items t) where
    -- the tables of rows that are built are what a builder answers
    pub built_tables : IsBuiltFor g urgency order (built_of r t)
    built_tables = found_tables_are_built g urgency order r.rows.items (built_of r t) is_admitted.limits admitted
        (record { found = are.found; written = written; worst = are.worst; excess = are.excess })

    -- the tables are within the limits of columns
    pub built_fit : DoTablesFit g t.nodes
    built_fit = tables_fit g r.rows.items t count are.fit written

  -- the tables that are assembled of them are what a builder answers
  pub assembled : (b : Built) → IsAssembledOf g r b → IsBuiltFor g urgency order b
  assembled b is = subst (IsBuiltFor g urgency order) (sym is.same) (built_tables b.tables is.written)
