-- Proof of `times_of`: reads `count` times, and returns them with the bytes after them.
use Rattle.std.proofs.lemmas.Result.{err_from_is_err_and}
use Rattle.cpg_codec.specs.Reading.{read_repeated}
use Rattle.cpg_codec.specs.Grammar.{read_time}
use Rattle.cpg_codec.proofs.Loop.{times_on, times_end, times_done}
use Rattle.cpg_codec.proofs.field_reading.times_of.Goals as goal

-- the next time can't be read; by the invariant reading all of them then fails in the same way
pub returns-in_err-time : goal.returns-in_err-time
returns-in_err-time c =
    let failure = err_from_is_err_and c.from_residual.result c.from_residual.ensures.1 in
    rw (failure.1, failure.2)
    (times_end read_time c.in_err-time.field-0.0 c.loop.times.items c.args.count c.loop.counter c.loop.rest.now
    (read_repeated read_time c.args.count c.args.bytes.now) c.loop-test.true c.in_err-time.ensures c.loop.invariant)

-- the next time is read; by the invariant reading all goes on with the bytes after it
pub loop-preserved : goal.loop-preserved
loop-preserved c =
    rw c.in_ok-push.ensures.items (times_on read_time c.loop.times.items c.args.count c.loop.counter c.loop.rest.now
    c.in_ok-time.time c.in_ok-time.after.now
    (read_repeated read_time c.args.count c.args.bytes.now) c.loop-test.true c.in_ok-time.ensures c.loop.invariant)

-- no time is left at the end of the loop, so the times so far are all
pub returns : goal.returns
returns c = times_done read_time c.loop.times.items c.args.count c.loop.counter c.loop.rest.now
    (read_repeated read_time c.args.count c.args.bytes.now) c.loop-test.false c.loop.invariant
