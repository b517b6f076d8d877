-- Proof of `put_heard`, which puts the rows of items at a node that hears them, each later by the sender's slot.
use Rattle.std.proofs.Common.{ℕ, ◌<◌, ◌∙◌, length, arith, ap, subst, sym}
use Rattle.std.specs.Prelude.{slice_index_or}
use Rattle.std.proofs.lemmas.Result.{err_from_is_err_and}
use Rattle.cpg_codec.proofs.Puts.{Puts-failed, puts_fail, puts_more}
use Rattle.std.specs.Prelude.{◌^◌}
use Rattle.cpg_base.specs.Graph.{home}
use Rattle.cpg_base.specs.Bus.{slot_length}
use Rattle.cpg_table.proofs.NodeRows.{slot_short}
use Rattle.cpg_packing.specs.PackBytes.{heard_bytes}
use Rattle.cpg_packing.proofs.Fitting.{heard_row_bytes}
use Rattle.cpg_packing.proofs.PathBytes.{is_put_as, took_as}
use Rattle.cpg_packing.proofs.items.put_heard.Goals as goal

-- in a graph within its limits a slot is shorter than 2 ^ 59
pub put_row-requires-clause-delay : goal.put_row-requires-clause-delay
put_row-requires-clause-delay g c = subst (λ (n : ℕ). n < 2 ^ 59) (sym c.slot_length-delay.ensures)
    (slot_short c.args.problem.now c.nodes-nodes.ensures.within c.home.result)

-- the rows so far are put, and so is that of this item, later by the slot of its sender (`heard_row_bytes`)
pub loop-item-preserved : goal.loop-item-preserved
loop-item-preserved g c =
    let rows = c.args.rows.now in
    let h = c.args.problem.now in
    let i = c.loop-item.item-index in
    -- the item, which has a row
    let x : ℕ = slice_index_or c.args.items.now i 0 in
    let within : x < length rows = omega (arith, c.requires.items i 0 c.loop-item-test.true, c.requires.long) in
    record {
      put = puts_more (heard_bytes h rows) _ _ _ _ _ _ c.args.items.now i 0 c.loop-item-test.true
          c.loop-item.invariant.put
          (is_put_as _ _ _ _ _ _ (heard_row_bytes rows x c.slot_length-delay.result
          (slot_length h (home h x)) c.index-rows-item.result c.index-rows-item.is within
          (c.slot_length-delay.ensures ∙ ap (slot_length h) c.home.ensures.home)) c.in_ok-put_row.ensures.put);
      kept = c.in_ok-put_row.ensures.cause.kept ∙ c.loop-item.invariant.kept;
      path = c.in_ok-put_row.ensures.path;
    }

-- the sink took a proper prefix of the rows before this one and of this one, and so one of all
pub returns-in_err-put_row-clause-put : goal.returns-in_err-put_row-clause-put
returns-in_err-put_row-clause-put g c =
    let rows = c.args.rows.now in
    let h = c.args.problem.now in
    let i = c.loop-item.item-index in
    -- the item, which has a row
    let x : ℕ = slice_index_or c.args.items.now i 0 in
    let within : x < length rows = omega (arith, c.requires.items i 0 c.loop-item-test.true, c.requires.long) in
    let p = err_from_is_err_and c.from_residual.result c.from_residual.ensures.1 in
    Puts-failed _ _ _ _ _ c.from_residual.result p.0 p.1
    (puts_fail (heard_bytes h rows) _ _ _ _ _ c.args.items.now i 0 c.loop-item-test.true c.loop-item.invariant.put
    (took_as _ _ _ _ _ (heard_row_bytes rows x c.slot_length-delay.result
    (slot_length h (home h x)) c.index-rows-item.result c.index-rows-item.is within
    (c.slot_length-delay.ensures ∙ ap (slot_length h) c.home.ensures.home)) c.in_err-put_row.ensures.put))
