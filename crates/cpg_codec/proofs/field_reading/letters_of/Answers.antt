-- Proof of `letters_of`: reads `count` letters of a name, and returns them with the bytes after them.
use Rattle.std.proofs.lemmas.Result.{err_from_is_err_and}
use Rattle.cpg_codec.specs.Reading.{read_repeated, byte_by}
use Rattle.cpg_base.specs.Name.{is_name_byte}
use Rattle.cpg_codec.proofs.Loop.{times_on, times_end, times_done}
use Rattle.cpg_codec.proofs.field_reading.letters_of.Goals as goal

-- the next letter can't be read; by the invariant reading all of them then fails in the same way
pub returns-in_err-letter : goal.returns-in_err-letter
returns-in_err-letter c =
    let failure = err_from_is_err_and c.from_residual.result c.from_residual.ensures.1 in
    rw (failure.1, failure.2) (times_end (byte_by is_name_byte) c.in_err-letter.field-0.0 c.loop.letters.items
    c.args.count c.loop.counter c.loop.rest.now
    (read_repeated (byte_by is_name_byte) c.args.count c.args.bytes.now) c.loop-test.true c.in_err-letter.ensures
    c.loop.invariant)

-- the next letter is read; by the invariant reading all goes on with the bytes after it
pub loop-preserved : goal.loop-preserved
loop-preserved c =
    rw c.in_ok-push.ensures.items (times_on (byte_by is_name_byte) c.loop.letters.items c.args.count c.loop.counter
    c.loop.rest.now c.in_ok-letter.letter c.in_ok-letter.after.now
    (read_repeated (byte_by is_name_byte) c.args.count c.args.bytes.now) c.loop-test.true c.in_ok-letter.ensures
    c.loop.invariant)

-- no letter is left at the end of the loop, so the letters so far are all
pub returns : goal.returns
returns c = times_done (byte_by is_name_byte) c.loop.letters.items c.args.count c.loop.counter c.loop.rest.now
    (read_repeated (byte_by is_name_byte) c.args.count c.args.bytes.now) c.loop-test.false c.loop.invariant
