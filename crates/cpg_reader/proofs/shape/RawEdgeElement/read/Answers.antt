-- Proof of `RawEdgeElement::read`: reads an element from its table.
use Rattle.std.proofs.Common.{◌∙◌, refl, rules}
use Rattle.std.proofs.lemmas.Result.{err_from_is_err_and}
use Rattle.cpg_reader.specs.Rows.{row_view}
use Rattle.cpg_reader.proofs.Each.{Refuses-along}
use Rattle.cpg_reader.proofs.Parts.{edge-parts}
use Rattle.cpg_reader.proofs.shape.RawEdgeElement.read.Goals as goal

-- its two names were read, so the edge is refused as its other fields are
pub returns-in_err-link : goal.returns-in_err-link
returns-in_err-link c =
    let failed = err_from_is_err_and c.from_residual-in_err-link.result c.from_residual-in_err-link.ensures.1 in
    rw (failed.1, failed.2, edge-parts (row_view c.args.row.now) _ _ c.in_ok-from.ensures c.in_ok-to.ensures)
    (Refuses-along c.in_err-link.field-0.0 _ _ (λ f e. rw e refl) c.in_err-link.ensures)

-- its two names and its other fields were read, and are those of the edge
pub returns : goal.returns
returns c = edge-parts (row_view c.args.row.now) _ _ c.in_ok-from.ensures c.in_ok-to.ensures
    ∙ rw c.in_ok-link.ensures (search rules)
