-- Proof of `graph_text`, which returns the text of a graph file that says the graph, with each key that has a value.
use Rattle.std.proofs.Common.{◌≡◌, ◌≤◌, Some, ap, ◌∙◌, sym, subst, string_bytes}
use Rattle.std.proofs.lemmas.Str.{IsUtf8-string_bytes}
use Rattle.toml.specs.Data.{members_depth}
use Rattle.toml.specs.View.{table_view}
use Rattle.cpg_reader.specs.WrittenTree.{graph_members}
use Rattle.cpg_reader.proofs.ReadBack.{graph_shallow, text_back}
use Rattle.cpg_reader.proofs.writing.graph_text.Goals as goal

-- The text is parsed as the members that were written, as their depth is small; read as a document, they give the
-- graph.
pub returns-in-Ok : goal.returns-in-Ok
returns-in-Ok c =
    let g = c.args.problem.now in
    let is : table_view c.in_ok-table.table ≡ graph_members g = c.in_ok-table.ensures.table in
    let shallow : members_depth (table_view c.in_ok-table.table) ≤ 80 =
    subst (λ ms. members_depth ms ≤ 80) (sym is) (graph_shallow g) in
    text_back g c.faults-faults.ensures.within c.in_ok-table.ensures.nodes c.in_ok-table.ensures.processes
    (string_bytes c.in-Ok.text)
    (IsUtf8-string_bytes c.in-Ok.text)
    (c.in-Ok.ensures.reads_back shallow ∙ ap (λ ms. Some ms) is)
