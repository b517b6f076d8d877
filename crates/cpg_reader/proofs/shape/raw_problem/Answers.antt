-- Proof of `raw_problem`, which returns all that a document says.
use Rattle.std.proofs.Common.{refl}
use Rattle.std.proofs.lemmas.Result.{err_from_is_err_and}
use Rattle.toml.specs.View.{table_view}
use Rattle.cpg_reader.proofs.Each.{Refuses-along}
use Rattle.cpg_reader.proofs.Parts.{graph-parts}
use Rattle.cpg_reader.proofs.shape.raw_problem.Goals as goal

-- A document is read by the keys of its top and then its elements, so if the keys are refused, it is.
pub returns-in_err-tops : goal.returns-in_err-tops
returns-in_err-tops c =
    let failed = err_from_is_err_and c.from_residual.result c.from_residual.ensures.1 in
    rw (failed.1, failed.2, graph-parts (table_view c.args.members.now))
    (Refuses-along c.in_err-tops.field-0.0 _ _ (λ f e. rw e refl) c.in_err-tops.ensures)

-- the keys of the top were read, so the document is read as its elements are
pub returns : goal.returns
returns c = rw (graph-parts (table_view c.args.members.now), c.in_ok-tops.ensures) c.read_elements.ensures
