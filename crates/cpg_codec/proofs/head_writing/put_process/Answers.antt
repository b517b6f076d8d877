-- Proof of `put_process`: a process, with what version 2 adds to it.
use Rattle.std.proofs.Common.{◌++◌}
use Rattle.std.specs.List.{flat_map}
use Rattle.std.proofs.lemmas.Result.{err_from_is_err_and}
use Rattle.cpg_codec.specs.Spelling.{byte, bit, name_bytes, extra_bytes}
use Rattle.std.specs.Int.{w64, to_be_bytes}
use Rattle.cpg_codec.proofs.HeadParts.{process_parts}
use Rattle.cpg_codec.proofs.Puts.{Puts-then, Puts-first, Puts-failed, fails_second, fails_first}
use Rattle.cpg_codec.proofs.head_writing.put_process.Goals as goal

-- the name failed: the sink took a proper prefix of the held bytes and the name, and so one of the held bytes and the
-- process
pub returns-in_err-put_name-clause-put : goal.returns-in_err-put_name-clause-put
returns-in_err-put_name-clause-put g c =
    let failure = err_from_is_err_and c.from_residual.result c.from_residual.ensures.1 in
    rw (process_parts (record { process = c.args.process.now; extra = c.args.extra }))
    (Puts-first _ _ _ _ (name_bytes c.args.process.now.name)
    ((byte c.args.process.now.node ++ byte (bit c.args.process.now.condition))
    ++ (flat_map (to_be_bytes w64) c.args.process.now.times ++ extra_bytes c.args.extra))
    c.from_residual.result failure.0 failure.1
    c.in_err-put_name.ensures.put)

-- the node and the flag failed after the name was put: the sink took a proper prefix of the bytes still held and these
-- two; in all that is a proper prefix of the bytes held first and the process
pub returns-in_err-put-clause-put : goal.returns-in_err-put-clause-put
returns-in_err-put-clause-put g c =
    let failure = err_from_is_err_and c.from_residual-in_err-put.result c.from_residual-in_err-put.ensures.1 in
    rw (process_parts (record { process = c.args.process.now; extra = c.args.extra }))
    (Puts-failed _ _ _ _ _ c.from_residual-in_err-put.result failure.0 failure.1
    (fails_second _ _ _ _ _ (name_bytes c.args.process.now.name)
    ((byte c.args.process.now.node ++ byte (bit c.args.process.now.condition))
    ++ (flat_map (to_be_bytes w64) c.args.process.now.times ++ extra_bytes c.args.extra))
    c.in_ok-put_name.ensures.put
    (fails_first _ _ _ (byte c.args.process.now.node ++ byte (bit c.args.process.now.condition))
    (flat_map (to_be_bytes w64) c.args.process.now.times ++ extra_bytes c.args.extra)
    (rw c.bit_of.ensures at c.in_err-put.ensures.put))))

-- the name, the node with the flag, and the timing are put one after another
pub returns-clause-put : goal.returns-clause-put
returns-clause-put g c =
    rw (process_parts (record { process = c.args.process.now; extra = c.args.extra }))
    (Puts-then _ _ _ _ _ _ (name_bytes c.args.process.now.name)
    ((byte c.args.process.now.node ++ byte (bit c.args.process.now.condition))
    ++ (flat_map (to_be_bytes w64) c.args.process.now.times ++ extra_bytes c.args.extra)) c.put_timing.result
    c.in_ok-put_name.ensures.put
    (Puts-then _ _ _ _ _ _ (byte c.args.process.now.node ++ byte (bit c.args.process.now.condition))
    (flat_map (to_be_bytes w64) c.args.process.now.times ++ extra_bytes c.args.extra) c.put_timing.result
    (rw c.bit_of.ensures at c.in_ok-put.ensures.put)
    (rw c.times.ensures at c.put_timing.ensures.put)))
