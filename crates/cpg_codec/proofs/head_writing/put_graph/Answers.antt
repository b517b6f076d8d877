-- Proof of `put_graph`: the processes and the edges.
use Rattle.std.proofs.Common.{◌++◌, length}
use Rattle.std.specs.List.{flat_map}
use Rattle.std.proofs.lemmas.Result.{err_from_is_err_and}
use Rattle.cpg_codec.specs.Spelling.{byte, written, process_bytes, edge_bytes}
use Rattle.std.specs.Int.{w16, to_be_bytes}
use Rattle.cpg_codec.proofs.Short.{short_edges}
use Rattle.cpg_codec.proofs.Puts.{Puts-then, Puts-first, Puts-failed, fails_second, fails_first}
use Rattle.cpg_codec.proofs.head_writing.put_graph.Goals as goal

-- the ends of the edges of a lawful head fit a byte each
pub put_counted_edges-requires-clause-short : goal.put_counted_edges-requires-clause-short
put_counted_edges-requires-clause-short g c =
    rw c.edges.ensures.edges (short_edges c.args.head.now c.edges.ensures.within)

-- the count failed: the sink took a proper prefix of the held bytes and the count, and so one of the held bytes and the
-- graph
pub returns-in_err-put-clause-put : goal.returns-in_err-put-clause-put
returns-in_err-put-clause-put g c =
    let failure = err_from_is_err_and c.from_residual.result c.from_residual.ensures.1 in
    (Puts-first _ _ _ _ (byte (length c.args.head.now.processes))
    ((flat_map process_bytes (written c.args.head.now)) ++ (to_be_bytes w16 (length c.args.head.now.edges)
    ++ flat_map edge_bytes c.args.head.now.edges)) c.from_residual.result failure.0 failure.1
    (rw c.processes.ensures.processes at c.in_err-put.ensures.put))

-- the processes failed after the count was put: the sink took a proper prefix of the bytes still held and the
-- processes; in all that is a proper prefix of the bytes held first and the graph
pub returns-in_err-put_processes-clause-put : goal.returns-in_err-put_processes-clause-put
returns-in_err-put_processes-clause-put g c =
    let failure = err_from_is_err_and c.from_residual-in_err-put_processes.result
    c.from_residual-in_err-put_processes.ensures.1 in
    (Puts-failed _ _ _ _ _ c.from_residual-in_err-put_processes.result failure.0 failure.1
    (fails_second _ _ _ _ _ (byte (length c.args.head.now.processes))
    ((flat_map process_bytes (written c.args.head.now))
    ++ (to_be_bytes w16 (length c.args.head.now.edges) ++ flat_map edge_bytes c.args.head.now.edges))
    (rw c.processes.ensures.processes at c.in_ok-put.ensures.put)
    (fails_first _ _ _ (flat_map process_bytes (written c.args.head.now))
    (to_be_bytes w16 (length c.args.head.now.edges) ++ flat_map edge_bytes c.args.head.now.edges)
    c.in_err-put_processes.ensures.put)))

-- the count, the processes and the edges are put one after another
pub returns-clause-put : goal.returns-clause-put
returns-clause-put g c =
    (Puts-then _ _ _ _ _ _ (byte (length c.args.head.now.processes))
    ((flat_map process_bytes (written c.args.head.now)) ++ (to_be_bytes w16 (length c.args.head.now.edges)
    ++ flat_map edge_bytes c.args.head.now.edges)) c.put_counted_edges.result
    (rw c.processes.ensures.processes at c.in_ok-put.ensures.put)
    (Puts-then _ _ _ _ _ _ (flat_map process_bytes (written c.args.head.now)) (to_be_bytes w16
    (length c.args.head.now.edges) ++ flat_map edge_bytes c.args.head.now.edges) c.put_counted_edges.result
    c.in_ok-put_processes.ensures.put (rw c.edges.ensures.edges at c.put_counted_edges.ensures.put)))
