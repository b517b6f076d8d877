-- Proof of `put_timing`: how long the executions take, and what version 2 adds.
use Rattle.std.specs.List.{flat_map}
use Rattle.std.proofs.lemmas.Result.{err_from_is_err_and}
use Rattle.cpg_codec.specs.Spelling.{extra_bytes}
use Rattle.std.specs.Int.{w64, to_be_bytes}
use Rattle.cpg_codec.proofs.Puts.{Puts-then, Puts-first}
use Rattle.cpg_codec.proofs.head_writing.put_timing.Goals as goal

-- the times failed: the sink took a proper prefix of the held bytes and the times, and so one of the held bytes and the
-- timing
pub returns-in_err-put_times-clause-put : goal.returns-in_err-put_times-clause-put
returns-in_err-put_times-clause-put g c =
    let failure = err_from_is_err_and c.from_residual.result c.from_residual.ensures.1 in
    Puts-first _ _ _ _ (flat_map (to_be_bytes w64) c.args.times.now)
    (extra_bytes c.args.extra) c.from_residual.result failure.0 failure.1 c.in_err-put_times.ensures.put

-- the times are put first, and then the extra
pub returns-clause-put : goal.returns-clause-put
returns-clause-put g c = Puts-then _ _ _ _ _ _ (flat_map (to_be_bytes w64) c.args.times.now)
    (extra_bytes c.args.extra) c.put_extra.result c.in_ok-put_times.ensures.put c.put_extra.ensures.put
