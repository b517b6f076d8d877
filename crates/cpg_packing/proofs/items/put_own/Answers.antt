-- Proof of `put_own`, which puts the rows of items that a node starts or sends, as they are.
use Rattle.std.proofs.Common.{ℕ, ◌<◌, ◌∙◌, length, arith}
use Rattle.std.specs.Prelude.{slice_index_or}
use Rattle.std.proofs.lemmas.Result.{err_from_is_err_and}
use Rattle.cpg_codec.proofs.Puts.{Puts-failed, puts_fail, puts_more}
use Rattle.cpg_packing.specs.PackBytes.{own_bytes}
use Rattle.cpg_packing.proofs.Fitting.{own_row}
use Rattle.cpg_packing.proofs.PathBytes.{is_put_as, took_as}
use Rattle.cpg_packing.proofs.items.put_own.Goals as goal

-- the rows so far are put, and so is that of this item; with the delay 0 it is the row itself (`own_row`)
pub loop-item-preserved : goal.loop-item-preserved
loop-item-preserved g c =
    let rows = c.args.rows.now in
    let i = c.loop-item.item-index in
    -- the item, which has a row
    let x : ℕ = slice_index_or c.args.items.now i 0 in
    let within : x < length rows = c.requires.items i 0 c.loop-item-test.true in
    record {
      put = puts_more (own_bytes rows) _ _ _ _ _ _ c.args.items.now i 0 c.loop-item-test.true c.loop-item.invariant.put
          (is_put_as _ _ _ _ _ _
          (own_row rows x c.index-rows-item.result c.index-rows-item.is within) c.in_ok-put_row.ensures.put);
      kept = c.in_ok-put_row.ensures.cause.kept ∙ c.loop-item.invariant.kept;
      path = c.in_ok-put_row.ensures.path;
    }

-- the sink took a proper prefix of the rows before this one and of this one, and so one of all
pub returns-in_err-put_row-clause-put : goal.returns-in_err-put_row-clause-put
returns-in_err-put_row-clause-put g c =
    let rows = c.args.rows.now in
    let i = c.loop-item.item-index in
    -- the item, which has a row
    let x : ℕ = slice_index_or c.args.items.now i 0 in
    let within : x < length rows = c.requires.items i 0 c.loop-item-test.true in
    let p = err_from_is_err_and c.from_residual.result c.from_residual.ensures.1 in
    Puts-failed _ _ _ _ _ c.from_residual.result p.0 p.1
    (puts_fail (own_bytes rows) _ _ _ _ _ c.args.items.now i 0 c.loop-item-test.true c.loop-item.invariant.put
    (took_as _ _ _ _ _
    (own_row rows x c.index-rows-item.result c.index-rows-item.is within) c.in_err-put_row.ensures.put))
