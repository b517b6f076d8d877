-- Proof of `edges_of`: reads `count` edges, and returns them with the bytes after them.
use Rattle.std.proofs.lemmas.Result.{err_from_is_err_and}
use Rattle.cpg_codec.specs.Reading.{read_repeated}
use Rattle.cpg_codec.specs.Grammar.{read_edge}
use Rattle.cpg_codec.proofs.Loop.{times_on, times_end, times_done}
use Rattle.cpg_codec.proofs.head_reading.edges_of.Goals as goal

-- the next edge can't be read; by the invariant reading all of them then fails in the same way
pub returns-in_err-edge : goal.returns-in_err-edge
returns-in_err-edge c =
    let failure = err_from_is_err_and c.from_residual-in_err-edge.result c.from_residual-in_err-edge.ensures.1 in
    rw (failure.1, failure.2) (times_end (read_edge c.args.processes) c.in_err-edge.field-0.0 c.loop.edges.items
    c.args.count c.loop.counter c.loop.rest.now
    (read_repeated (read_edge c.args.processes) c.args.count c.args.bytes.now) c.loop-test.true c.in_err-edge.ensures
    c.loop.invariant)

-- the next edge is read; by the invariant reading all goes on with the bytes after it
pub loop-preserved : goal.loop-preserved
loop-preserved c =
    rw c.in_ok-push.ensures.items (times_on (read_edge c.args.processes) c.loop.edges.items c.args.count c.loop.counter
    c.loop.rest.now c.in_ok-edge.edge c.in_ok-edge.after.now
    (read_repeated (read_edge c.args.processes) c.args.count c.args.bytes.now) c.loop-test.true c.in_ok-edge.ensures
    c.loop.invariant)

-- no edge is left at the end of the loop, so the edges so far are all
pub returns : goal.returns
returns c = times_done (read_edge c.args.processes) c.loop.edges.items c.args.count c.loop.counter c.loop.rest.now
    (read_repeated (read_edge c.args.processes) c.args.count c.args.bytes.now) c.loop-test.false c.loop.invariant
