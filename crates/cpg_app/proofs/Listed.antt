-- What is written by the rows of a compile is the output by the tables that have these rows, which aren't assembled.
use Rattle.std.proofs.Common.{◌≡◌, subst, sym}
use Rattle.cpg_base.specs.Graph.{Graph}
use Rattle.cpg_base.specs.Limits.{IsWithinLimits}
use Rattle.cpg_base.specs.WellFormed.{WellFormed}
use Rattle.cpg_rules.specs.Admission.{Admission}
use Rattle.cpg_head.specs.GraphHead.{head_of}
use Rattle.cpg_table.specs.Lawful.{AreTablesOf}
use Rattle.cpg_codec.specs.Packs.{AreLawful, IsPackHead}
use Rattle.cpg_codec.proofs.Lengths.{all_short}
use Rattle.cpg_core.specs.declared.built_rows.BuiltRows.{BuiltRows}
use Rattle.cpg_core.specs.Compilation.{AreCompiledRows, IsCompilation, compiled_of}
use Rattle.cpg_core.specs.declared.compiling.Compiled.{Compiled}
use Rattle.cpg_packing.proofs.Spelled.{spelled}
use Rattle.cpg_words.specs.Parts.{Text}
use Rattle.cpg_show.proofs.Rows.{tables_have_text}
use Rattle.cpg_app.specs.Outputs.{IsMadeOf, packed, packed_by, shown, shown_by}
use Rattle.cpg_app.proofs.Safe.{compilations_are_safe}

-- Bytes are made of a graph if `spell` gives them for the compilation with a compile's rows. Its tables are lawful, as
-- their head and their rows are, and safe, as all tables of a compilation are.
made_of_rows : (a : Admission) → WellFormed a.graph → IsPackHead (head_of a.graph) →
    (r : BuiltRows) (are : AreCompiledRows a.graph a.order r) (spell : Graph → Compiled → Text) (bytes : Text) →
    bytes ≡ spell a.graph (compiled_of r are.tables) → IsMadeOf a spell bytes
made_of_rows a formed head r are spell bytes is =
    let tables = are.tables in
    let compilation : IsCompilation a.graph a.order (compiled_of r tables) = are.compilation tables are.written in
    let lawful : AreLawful tables = record {
      head = subst IsPackHead (sym are.written.head) head;
      nodes = subst (λ h. AreTablesOf h tables.nodes) (sym are.written.head) are.written.lawful;
    } in
    record {
      compiled = compiled_of r tables;
      compilation = compilation;
      pack = record { head = are.written.head; lawful = lawful; short = all_short tables lawful };
      safe = compilations_are_safe a.graph formed a.order (compiled_of r tables) compilation;
      spelled = is;
    }

-- the text that is written by the rows of a compile is the output of `show`
pub shown_of_rows : (a : Admission) → WellFormed a.graph → IsPackHead (head_of a.graph) → (r : BuiltRows) →
    AreCompiledRows a.graph a.order r →
    IsMadeOf a shown (shown_by a.graph r)
shown_of_rows a formed head r are = made_of_rows a formed head r are shown (shown_by a.graph r)
    (sym (tables_have_text a.graph r.order r.rows.items r.worst.time are.tables.nodes are.written.columns))

-- the pack that is written by the rows of a compile is the output of `compile`
pub packed_of_rows : (a : Admission) → IsWithinLimits a.graph → WellFormed a.graph → IsPackHead (head_of a.graph) →
    (r : BuiltRows) →
    AreCompiledRows a.graph a.order r →
    IsMadeOf a packed (packed_by a.graph r)
packed_of_rows a within formed head r are = made_of_rows a formed head r are packed (packed_by a.graph r)
    (sym (spelled a.graph within formed r.rows.items are.writable are.tables are.written))
