-- Proof of `edges_of`, which returns the edges that a document says.
use Rattle.std.proofs.Common.{◌≤◌}
use Rattle.cpg_reader.specs.Shape.{raw_view}
use Rattle.cpg_base.specs.Natural.{natural}
use Rattle.cpg_reader.specs.declared.shape.RawEdge.{RawEdge}
use Rattle.cpg_reader.proofs.Limits.{few_processes, small_edges, all_at}
use Rattle.cpg_reader.proofs.building.edges_of.Goals as goal

-- a document within the limits has few enough processes for their numbers
pub edge_of-requires-clause-few : goal.edge_of-requires-clause-few
edge_of-requires-clause-few c =
    few_processes (raw_view c.args.raw.now) c.args.processes.now c.requires.limits c.requires.processes

-- the bytes of each edge of the document fit 16 bits
pub edge_of-requires-clause-bytes : goal.edge_of-requires-clause-bytes
edge_of-requires-clause-bytes c =
    all_at (λ (x : RawEdge). natural x.bytes ≤ 65535) c.args.raw.now.edges.items c.deref-edge-items.result.now
    c.loop-index.index c.edge-item.result
    (small_edges (raw_view c.args.raw.now) c.requires.limits) c.deref-edge-items.ensures.value
    c.loop-index-test.true c.edge-item.is
