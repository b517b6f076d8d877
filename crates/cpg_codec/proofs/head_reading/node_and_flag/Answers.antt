-- Proof of `node_and_flag`: the node of a process and its condition flag, if `ones` processes before it have a
-- condition.
use Rattle.std.proofs.Common.{arith}
use Rattle.cpg_codec.proofs.Records.{place_found}
use Rattle.cpg_codec.proofs.head_reading.node_and_flag.Goals as goal

-- both bytes are in range, so they are what the grammar reads
pub returns-then-are_within : goal.returns-then-are_within
returns-then-are_within c =
    let within = c.are_within.ensures.0 c.if-are_within.true in
    place_found c.args.nodes c.args.ones c.args.bytes.now c.new-place.result c.process_node-node.result
    c.process_flag-flag.result c.requires
    (omega arith) c.in-len2-up.len_at_least c.new-place.ensures c.process_node-node.ensures
    c.process_flag-flag.ensures within.0 within.1
