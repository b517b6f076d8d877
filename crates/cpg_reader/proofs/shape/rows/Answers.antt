-- Proof of `rows`, which returns the elements that the tables of one of the lists say, in their order.
use Rattle.std.proofs.Common.{◌∙◌, sym}
use Rattle.std.proofs.lemmas.Result.{err_from_is_err_and}
use Rattle.toml.specs.Data.{Members}
use Rattle.toml.specs.View.{table_view}
use Rattle.cpg_reader.proofs.Each.{refused, ends, each-map}
use Rattle.cpg_reader.proofs.shape.rows.Goals as goal

-- this element is refused, so the list is
pub returns-in_err-read : goal.returns-in_err-read
returns-in_err-read g c =
    let failed = err_from_is_err_and c.from_residual-in_err-read.result c.from_residual-in_err-read.ensures.1 in
    let fused = each-map (λ t. table_view t.now)
    (λ i (ms : Members). g.T.Element.reads (record { table = c.args.table; index = i; members = ms })) 0
    c.args.elements.now in
    rw (failed.1, failed.2) (refused _ c.args.elements.now c.loop-index.index c.index-elements-index.result
    c.loop-index.rows.items c.in_err-read.field-0.0 _ c.loop-index-test.true c.index-elements-index.is
    c.in_err-read.ensures (c.loop-index.invariant ∙ sym fused))

-- all elements are read
pub returns : goal.returns
returns g c = each-map (λ t. table_view t.now)
    (λ i (ms : Members). g.T.Element.reads (record { table = c.args.table; index = i; members = ms })) 0
    c.args.elements.now
    ∙ ends _ c.args.elements.now c.loop-index.index c.loop-index.rows.items _ c.loop-index-test.false
    c.loop-index.invariant
