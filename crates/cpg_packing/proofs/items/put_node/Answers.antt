-- Proof of `put_node`, which puts the rows of what a node starts, then of what it sends, then of what it hears.
use Rattle.std.proofs.Common.{◌++◌}
use Rattle.std.specs.List.{flat_map}
use Rattle.std.proofs.lemmas.Result.{err_from_is_err_and}
use Rattle.cpg_codec.proofs.Puts.{Puts-then, Puts-first, Puts-failed, fails_second, fails_first}
use Rattle.cpg_packing.specs.PackBytes.{heard_bytes, own_bytes}
use Rattle.cpg_packing.proofs.items.put_node.Goals as goal

-- the sink took only a proper prefix of the rows of the starts, with which all rows begin
pub returns-in_err-put_own-clause-put : goal.returns-in_err-put_own-clause-put
returns-in_err-put_own-clause-put g c =
    let rows = c.args.rows.now in
    let items = c.args.items.now in
    let p = err_from_is_err_and c.from_residual.result c.from_residual.ensures.1 in
    Puts-first _ _ _ _ (flat_map (own_bytes rows) items.starts) (flat_map (own_bytes rows) items.sends
    ++ flat_map (heard_bytes c.args.problem.now rows) items.hears) c.from_residual.result p.0 p.1
    (rw c.starts.ensures at c.in_err-put_own.ensures.put)

-- the rows of the starts are put, and of those of the sends a proper prefix was taken; together that is one of all
pub returns-in_err-put_own-2-clause-put : goal.returns-in_err-put_own-2-clause-put
returns-in_err-put_own-2-clause-put g c =
    let rows = c.args.rows.now in
    let items = c.args.items.now in
    let p = err_from_is_err_and c.from_residual-in_err-put_own-2.result c.from_residual-in_err-put_own-2.ensures.1 in
    Puts-failed _ _ _ _ _ c.from_residual-in_err-put_own-2.result p.0 p.1
    (fails_second _ _ _ _ _ (flat_map (own_bytes rows) items.starts)
    (flat_map (own_bytes rows) items.sends ++ flat_map (heard_bytes c.args.problem.now rows) items.hears)
    (rw c.starts.ensures at c.in_ok-put_own.ensures.put)
    (fails_first _ _ _ (flat_map (own_bytes rows) items.sends)
    (flat_map (heard_bytes c.args.problem.now rows) items.hears)
    (rw c.sends.ensures at c.in_err-put_own-2.ensures.put)))

-- the rows of the starts and the sends are put, so what becomes of those of the hears becomes of all
pub returns-clause-put : goal.returns-clause-put
returns-clause-put g c =
    let rows = c.args.rows.now in
    let items = c.args.items.now in
    Puts-then _ _ _ _ _ _ (flat_map (own_bytes rows) items.starts) (flat_map (own_bytes rows) items.sends
    ++ flat_map (heard_bytes c.args.problem.now rows) items.hears) c.put_heard.result
    (rw c.starts.ensures at c.in_ok-put_own.ensures.put)
    (Puts-then _ _ _ _ _ _ (flat_map (own_bytes rows) items.sends)
    (flat_map (heard_bytes c.args.problem.now rows) items.hears) c.put_heard.result
    (rw c.sends.ensures at c.in_ok-put_own-2.ensures.put) (rw c.hears.ensures at c.put_heard.ensures.put))
