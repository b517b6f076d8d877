-- Proof of `columns_of`: reads `count` columns, and returns them with the bytes after them.
use Rattle.std.proofs.Common.{arith}
use Rattle.std.proofs.lemmas.Result.{err_from_is_err_and}
use Rattle.std.proofs.lemmas.Grind.{common_steps}
use Rattle.cpg_codec.specs.Reading.{read_repeated}
use Rattle.cpg_codec.specs.Grammar.{read_column}
use Rattle.cpg_codec.proofs.Loop.{times_on, times_end, times_done}
use Rattle.cpg_codec.proofs.row_reading.columns_of.Goals as goal

-- the next column can't be read; by the invariant reading all of them then fails in the same way
pub returns-in_err-column-clause-gives : goal.returns-in_err-column-clause-gives
returns-in_err-column-clause-gives c =
    let failure = err_from_is_err_and c.from_residual-in_err-column.result c.from_residual-in_err-column.ensures.1 in
    rw (failure.1, failure.2) (times_end (read_column c.args.space.now) c.in_err-column.field-0.0 c.loop.columns.items
    c.args.count c.loop.counter c.loop.rest.now
    (read_repeated (read_column c.args.space.now) c.args.count c.args.bytes.now) c.loop-test.true
    c.in_err-column.ensures c.loop.invariant.so_far)

-- the next column is read; by the invariant reading all goes on with the bytes after it
pub loop-preserved : goal.loop-preserved
loop-preserved c =
    record {
      so_far = rw c.in_ok-push.ensures.items
          (times_on (read_column c.args.space.now) c.loop.columns.items c.args.count c.loop.counter c.loop.rest.now
          c.in_ok-column.column c.in_ok-column.after.now
          (read_repeated (read_column c.args.space.now) c.args.count c.args.bytes.now) c.loop-test.true
          c.in_ok-column.ensures c.loop.invariant.so_far);
      count = grind (arith, common_steps);
    }

-- no column is left, so those so far are all
pub returns-clause-gives : goal.returns-clause-gives
returns-clause-gives c =
    times_done (read_column c.args.space.now) c.loop.columns.items c.args.count c.loop.counter c.loop.rest.now
    (read_repeated (read_column c.args.space.now) c.args.count c.args.bytes.now) c.loop-test.false
    c.loop.invariant.so_far
