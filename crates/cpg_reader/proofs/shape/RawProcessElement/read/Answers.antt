-- Proof of `RawProcessElement::read`: reads an element from its table.
use Rattle.std.proofs.Common.{◌∙◌, refl, rules}
use Rattle.std.proofs.lemmas.Result.{err_from_is_err_and}
use Rattle.cpg_reader.specs.Rows.{row_view}
use Rattle.cpg_reader.proofs.Each.{Refuses-along}
use Rattle.cpg_reader.proofs.Parts.{process-parts}
use Rattle.cpg_reader.proofs.shape.RawProcessElement.read.Goals as goal

-- its two names were read, so the process is refused as its other fields are
pub returns-in_err-work : goal.returns-in_err-work
returns-in_err-work c =
    let failed = err_from_is_err_and c.from_residual-in_err-work.result c.from_residual-in_err-work.ensures.1 in
    rw (failed.1, failed.2, process-parts (row_view c.args.row.now) _ _ c.in_ok-name.ensures c.in_ok-node.ensures)
    (Refuses-along c.in_err-work.field-0.0 _ _ (λ f e. rw e refl) c.in_err-work.ensures)

-- its two names and its other fields were read, and are those of the process
pub returns : goal.returns
returns c = process-parts (row_view c.args.row.now) _ _ c.in_ok-name.ensures c.in_ok-node.ensures
    ∙ rw c.in_ok-work.ensures (search rules)
