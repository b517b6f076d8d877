-- Proof of `put_processes`: the processes of a head, one after another.
use Rattle.std.proofs.Common.{◌∙◌, arith}
use Rattle.std.proofs.lemmas.Result.{err_from_is_err_and}
use Rattle.cpg_codec.specs.Spelling.{written, process_bytes}
use Rattle.cpg_codec.proofs.WrittenHeads.{written_at, written_length}
use Rattle.cpg_codec.proofs.Puts.{item_more, item_fails, puts_all, Puts-failed}
use Rattle.cpg_codec.proofs.head_writing.put_processes.Goals as goal

-- the bytes so far are put, and so are those of this process with its extras; neither met a fault
pub loop-number-preserved : goal.loop-number-preserved
loop-number-preserved g c =
    let lt = rw c.processes-processes.ensures.processes at c.loop-number-test.true in
    record {
      put = item_more process_bytes _ _ _ _ _ _ (written c.args.head.now) c.loop-number.number
          (record { process = c.index-processes-number.result; extra = c.extra_of-extra.result })
          (written_at c.args.head.now c.loop-number.number c.index-processes-number.result c.extra_of-extra.result
          c.processes-processes.ensures.within lt
          (rw c.processes-processes.ensures.processes at c.index-processes-number.is) c.extra_of-extra.ensures)
          (omega (arith, lt, written_length c.args.head.now)) c.loop-number.invariant.put
          c.in_ok-put_process.ensures.put;
      kept = c.in_ok-put_process.ensures.cause.kept ∙ c.loop-number.invariant.kept;
    }

-- this process failed: the processes before it are put, and the sink took a proper prefix of the bytes still held and
-- this process; in all that is a proper prefix of the bytes held first and all processes
pub returns-in_err-put_process-clause-put : goal.returns-in_err-put_process-clause-put
returns-in_err-put_process-clause-put g c =
    let failure = err_from_is_err_and c.from_residual.result c.from_residual.ensures.1 in
    let lt = rw c.processes-processes.ensures.processes at c.loop-number-test.true in
    Puts-failed _ _ _ _ _ c.from_residual.result failure.0 failure.1
    (item_fails process_bytes _ _ _ _ _ (written c.args.head.now) c.loop-number.number
    (record { process = c.index-processes-number.result; extra = c.extra_of-extra.result })
    (written_at c.args.head.now c.loop-number.number c.index-processes-number.result c.extra_of-extra.result
    c.processes-processes.ensures.within lt
    (rw c.processes-processes.ensures.processes at c.index-processes-number.is) c.extra_of-extra.ensures)
    (omega (arith, lt, written_length c.args.head.now)) c.loop-number.invariant.put c.in_err-put_process.ensures.put)

-- no process is left, so the bytes so far are those of all
pub returns-clause-put : goal.returns-clause-put
returns-clause-put g c =
    let le = rw c.processes-processes.ensures.processes at c.loop-number-test.false in
    puts_all process_bytes _ _ _ _ (written c.args.head.now) c.loop-number.number
    (omega (arith, le, written_length c.args.head.now)) c.loop-number.invariant.put
