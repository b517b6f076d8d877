-- An accepted graph has tables, since those of its order exist.
use Rattle.std.proofs.Common.{◌≡◌, ◌∙◌, ℕ, List, length, refl, sym, ap, subst, inl, inr}
use Rattle.std.proofs.lemmas.List.{length-map}
use Rattle.std.proofs.lemmas.List.FromFn.{length-range_with_len}
use Rattle.cpg_base.specs.Graph.{item_count}
use Rattle.cpg_order.specs.Urgency.{IsTopological, first_order}
use Rattle.cpg_table.specs.Table.{Row}
use Rattle.cpg_reach.specs.Wide.{IsNarrow}
use Rattle.cpg_run.specs.declared.built.Built.{Built}
use Rattle.cpg_run.specs.Built.{IsBuiltFor}
use Rattle.cpg_run.proofs.BuiltTables.{admitted_under, found_tables_are_built}
use Rattle.cpg_core.proofs.WideRowsMade.{tables_fit}
use Rattle.cpg_built_laws.proofs.TablesExist.{tables_exist}
use Rattle.cpg_core.specs.CompileLaws.{AcceptedHaveTables}
use Rattle.cpg_core.proofs.Compilations.{compilation}
use Rattle.cpg_core.proofs.CompiledLaws.{compile_topological, first_topological}

-- an accepted graph in which no item is too wide by its views has tables with its greatest finish
pub accepted_have_tables : AcceptedHaveTables
accepted_have_tables g urgency guards finish admitted narrow is =
    let order = is.order in
    let measured = is.measured in
    -- the order of the compile is topological, and no item is too wide under it
    let first_top : IsTopological g (first_order g urgency) =
    first_topological g urgency admitted.topological admitted.given in
    let top : IsTopological g order =
    compile_topological g admitted.well_formed urgency admitted.topological first_top order is.compiled.taken in
    let own : IsNarrow g order = elim is.compiled.taken [
      | inl preferred ↦ preferred.narrow
      | inr same ↦ subst (IsNarrow g) (sym same.0) narrow
    ] in
    -- so there are tables under it
    let the_tables = tables_exist g urgency order guards measured.frozen admitted top own measured.frozen_times in
    let count : length the_tables.rows ≡ item_count g =
    sym (length-map the_tables.rows (λ (r : Row). r.item)) ∙ ap length the_tables.found.items
    ∙ length-range_with_len 0 (item_count g) in
    -- these, with the measures of the accepted graph, are what a builder answers
    let built : Built = record {
      tables = the_tables.tables;
      frozen = measured.frozen;
      worst = finish;
      worst_in = measured.worst_in;
      worst_by = measured.worst_by;
      excess = 0;
      excess_in = measured.excess_in;
      excess_by = measured.excess_by;
    } in
    let are : IsBuiltFor g urgency order built =
    found_tables_are_built g urgency order the_tables.rows built admitted.limits
    (admitted_under g urgency order guards admitted top)
    -- and so they are its compilation, with this finish
    (record {
      found = the_tables.found;
      written = the_tables.written;
      worst = measured.is_worst;
      excess = measured.is_excess;
    }) in (
      record { built = built; order = order },
      compilation g admitted.well_formed urgency admitted.topological first_top is.compiled.narrow admitted.joins
          admitted.urgency order
          is.compiled.taken built are
          (tables_fit g the_tables.rows the_tables.tables count the_tables.fit the_tables.written) refl,
      refl,
    )
