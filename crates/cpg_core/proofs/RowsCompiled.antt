-- Rows under the order that compiles the graph are those of its compilations, and there are tables with them.
use Rattle.std.proofs.Common.{◌≡◌, ◌∙◌, ℕ, List, None, sym, ap, subst}
use Rattle.cpg_base.specs.Graph.{Graph}
use Rattle.cpg_order.specs.Urgency.{IsTopological, first_order}
use Rattle.cpg_rules.specs.Admission.{IsAdmitted}
use Rattle.cpg_rules.specs.Guards.{Guards}
use Rattle.cpg_reach.specs.Wide.{IsNarrow}
use Rattle.cpg_table.specs.Writing.{AreWritable}
use Rattle.cpg_run.specs.Built.{IsBuiltFor}
use Rattle.cpg_built_laws.proofs.TablesExist.{is_written, written}
use Rattle.cpg_core.specs.BuiltRows.{AreBuiltRows, IsAssembledOf, built_of}
use Rattle.cpg_core.specs.declared.built_rows.BuiltRows.{BuiltRows}
use Rattle.cpg_core.specs.declared.expanding.Grown.{Grown}
use Rattle.cpg_tree_columns.specs.declared.measuring.Peak.{Peak}
use Rattle.cpg_core.proofs.RowsBuilt.{built_fit, built_tables, built_writable}
use Rattle.cpg_core.specs.declared.compiling.Compiled.{Compiled}
use Rattle.cpg_core.specs.Compilation.{AreCompiledRows, IsCompilation}
use Rattle.cpg_core.specs.Compiled.{IsCompileOrder}
use Rattle.cpg_core.proofs.Compilations.{compilation}
use Rattle.cpg_core.proofs.CompiledLaws.{compile_topological}

-- given: an admitted graph in which no item is too wide, if it gives no order
module _ (g : Graph) (urgency : List ℕ) (guards : Guards) (admitted : IsAdmitted g urgency guards)
    (first_top : IsTopological g (first_order g urgency))
    (narrow : g.order ≡ None → IsNarrow g (first_order g urgency)) where
  -- rows that are built under the compile's order, with nothing late, are those of its compilations
  pub compiled_rows : (t : Grown) (r : BuiltRows) → AreBuiltRows g urgency t.order r → r.excess ≡ t.excess →
      t.excess.time ≡ 0 → IsCompileOrder g urgency t.order →
      AreCompiledRows g urgency r
  compiled_rows t r are same zero taken =
      -- the order is topological, so its rows can be written, and it is the compile's
      let top : IsTopological g t.order =
      compile_topological g admitted.well_formed urgency admitted.topological first_top t.order taken in
      let writable : AreWritable g r.rows.items = built_writable g urgency guards admitted t.order top r are in
      let own : IsCompileOrder g urgency r.order = subst (IsCompileOrder g urgency) (sym are.same) taken in
      record {
        writable = writable;
        compilation = λ tables has_rows.
            -- tables of these rows are built for the order
            let built : IsBuiltFor g urgency r.order (built_of r tables) =
            subst (λ o. IsBuiltFor g urgency o (built_of r tables)) (sym are.same)
            (built_tables g urgency guards admitted t.order top r are tables has_rows) in
            compilation g admitted.well_formed urgency admitted.topological first_top narrow admitted.joins
            admitted.urgency r.order own
            (built_of r tables) built
            (built_fit g urgency guards admitted t.order top r are tables has_rows)
            (ap (λ (p : Peak). p.time) same ∙ zero);
        tables = written g admitted.limits admitted.well_formed r.rows.items writable;
        written = is_written g admitted.limits admitted.well_formed r.rows.items writable;
      }

-- what is assembled of such rows is a compilation
pub assembled_compilation : (g : Graph) (urgency : List ℕ) (r : BuiltRows) (c : Compiled) →
    AreCompiledRows g urgency r → IsAssembledOf g r c.built → c.order ≡ r.order →
    IsCompilation g urgency c
assembled_compilation g urgency r c are is same =
    subst (λ b. IsCompilation g urgency (record { built = b; order = c.order })) (sym is.same)
    (subst (λ o. IsCompilation g urgency (record { built = built_of r c.built.tables; order = o })) (sym same)
    (are.compilation c.built.tables is.written))
