-- Proof of `put_head`: the head.
use Rattle.std.proofs.Common.{◌++◌, length}
use Rattle.std.specs.List.{flat_map}
use Rattle.std.proofs.lemmas.Result.{err_from_is_err_and}
use Rattle.cpg_codec.specs.Spelling.{magic, byte, name_bytes, written, process_bytes, edge_bytes}
use Rattle.std.specs.Int.{w16, w32, to_be_bytes}
use Rattle.cpg_head.specs.Head.{version_of}
use Rattle.cpg_codec.proofs.HeadParts.{head_parts}
use Rattle.cpg_codec.proofs.Puts.{Puts-then, Puts-first, Puts-failed, fails_second, fails_first}
use Rattle.cpg_codec.proofs.head_writing.put_head.Goals as goal

-- the first numbers failed: the sink took a proper prefix of the held bytes and these numbers, and so one of the held
-- bytes and the head
pub returns-in_err-put-clause-put : goal.returns-in_err-put-clause-put
returns-in_err-put-clause-put g c =
    let failure = err_from_is_err_and c.from_residual.result c.from_residual.ensures.1 in
    rw (head_parts c.args.head.now) (Puts-first _ _ _ _ (to_be_bytes w32 magic
    ++ (byte (version_of c.args.head.now) ++ (byte c.args.head.now.faults ++ byte (length c.args.head.now.nodes))))
    ((flat_map name_bytes c.args.head.now.nodes) ++
    (byte (length c.args.head.now.processes) ++
    (flat_map process_bytes (written c.args.head.now) ++ (to_be_bytes w16 (length c.args.head.now.edges)
    ++ flat_map edge_bytes c.args.head.now.edges)))) c.from_residual.result failure.0 failure.1
    (rw (c.version.ensures, c.faults.ensures.faults, c.nodes-nodes.ensures.nodes) at c.in_err-put.ensures.put))

-- the names of the nodes failed after the first numbers were put: the sink took a proper prefix of the bytes still held
-- and the names; in all that is a proper prefix of the bytes held first and the head
pub returns-in_err-put_names-clause-put : goal.returns-in_err-put_names-clause-put
returns-in_err-put_names-clause-put g c =
    let failure =
    err_from_is_err_and c.from_residual-in_err-put_names.result c.from_residual-in_err-put_names.ensures.1 in
    rw (head_parts c.args.head.now) (Puts-failed _ _ _ _ _ c.from_residual-in_err-put_names.result failure.0 failure.1
    (fails_second _ _ _ _ _ (to_be_bytes w32 magic
    ++ (byte (version_of c.args.head.now) ++ (byte c.args.head.now.faults ++ byte (length c.args.head.now.nodes))))
    ((flat_map name_bytes c.args.head.now.nodes) ++
    (byte (length c.args.head.now.processes) ++
    (flat_map process_bytes (written c.args.head.now)
    ++ (to_be_bytes w16 (length c.args.head.now.edges) ++ flat_map edge_bytes c.args.head.now.edges))))
    (rw (c.version.ensures, c.faults.ensures.faults, c.nodes-nodes.ensures.nodes) at c.in_ok-put.ensures.put)
    (fails_first _ _ _ (flat_map name_bytes c.args.head.now.nodes)
    (byte (length c.args.head.now.processes) ++
    (flat_map process_bytes (written c.args.head.now)
    ++ (to_be_bytes w16 (length c.args.head.now.edges) ++ flat_map edge_bytes c.args.head.now.edges)))
    (rw c.nodes-nodes.ensures.nodes at c.in_err-put_names.ensures.put))))

-- the first numbers, the names of the nodes and the graph are put one after another
pub returns-clause-put : goal.returns-clause-put
returns-clause-put g c =
    rw (head_parts c.args.head.now) (Puts-then _ _ _ _ _ _ (to_be_bytes w32 magic
    ++ (byte (version_of c.args.head.now) ++ (byte c.args.head.now.faults ++ byte (length c.args.head.now.nodes))))
    ((flat_map name_bytes c.args.head.now.nodes) ++
    (byte (length c.args.head.now.processes) ++
    (flat_map process_bytes (written c.args.head.now) ++ (to_be_bytes w16 (length c.args.head.now.edges)
    ++ flat_map edge_bytes c.args.head.now.edges)))) c.put_graph.result
    (rw (c.version.ensures, c.faults.ensures.faults, c.nodes-nodes.ensures.nodes) at c.in_ok-put.ensures.put)
    (Puts-then _ _ _ _ _ _ (flat_map name_bytes c.args.head.now.nodes)
    (byte (length c.args.head.now.processes) ++
    (flat_map process_bytes (written c.args.head.now) ++ (to_be_bytes w16 (length c.args.head.now.edges)
    ++ flat_map edge_bytes c.args.head.now.edges))) c.put_graph.result
    (rw c.nodes-nodes.ensures.nodes at c.in_ok-put_names.ensures.put) c.put_graph.ensures.put))
