-- Proof of `names_of`: reads `count` names, and returns them with the bytes after them.
use Rattle.std.proofs.lemmas.Result.{err_from_is_err_and}
use Rattle.cpg_codec.specs.Reading.{read_repeated}
use Rattle.cpg_codec.specs.Grammar.{read_name}
use Rattle.cpg_codec.proofs.Loop.{times_on, times_end, times_done}
use Rattle.cpg_codec.proofs.head_reading.names_of.Goals as goal

-- the next name can't be read; by the invariant reading all of them then fails in the same way
pub returns-in_err-name : goal.returns-in_err-name
returns-in_err-name c =
    let failure = err_from_is_err_and c.from_residual-in_err-name.result c.from_residual-in_err-name.ensures.1 in
    rw (failure.1, failure.2)
    (times_end read_name c.in_err-name.field-0.0 c.loop.names.items c.args.count c.loop.counter c.loop.rest.now
    (read_repeated read_name c.args.count c.args.bytes.now) c.loop-test.true c.in_err-name.ensures c.loop.invariant)

-- the next name is read; by the invariant reading all goes on with the bytes after it
pub loop-preserved : goal.loop-preserved
loop-preserved c =
    rw c.in_ok-push.ensures.items (times_on read_name c.loop.names.items c.args.count c.loop.counter c.loop.rest.now
    c.in_ok-name.name c.in_ok-name.after.now
    (read_repeated read_name c.args.count c.args.bytes.now) c.loop-test.true c.in_ok-name.ensures c.loop.invariant)

-- no name is left at the end of the loop, so the names so far are all
pub returns : goal.returns
returns c = times_done read_name c.loop.names.items c.args.count c.loop.counter c.loop.rest.now
    (read_repeated read_name c.args.count c.args.bytes.now) c.loop-test.false c.loop.invariant
