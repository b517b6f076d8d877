-- Proof of `edge_of`: an edge between two of `processes` processes.
use Rattle.std.proofs.Common.{arith}
use Rattle.cpg_codec.proofs.Records.{edge_found}
use Rattle.cpg_codec.proofs.head_reading.edge_of.Goals as goal

-- both bytes are numbers of processes, so they are what the grammar reads
pub returns-then-are_ends : goal.returns-then-are_ends
returns-then-are_ends c =
    let within = c.are_ends.ensures.0 c.if-are_ends.true in
    edge_found c.args.processes c.args.bytes.now c.new-edge.result c.edge_from-from.result
    c.edge_to-to.result c.requires
    (omega arith) c.in-len2-up.len_at_least c.new-edge.ensures c.edge_from-from.ensures c.edge_to-to.ensures within.0
    within.1
