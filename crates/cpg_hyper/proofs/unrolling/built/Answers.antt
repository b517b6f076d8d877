-- Proof of `built`, which returns the graph of the processes and edges of all instances.
use Rattle.std.proofs.Common.{◌≡◌, rules, get_or}
use Rattle.cpg_hyper.proofs.Whole.{first_there}
use Rattle.cpg_hyper.proofs.Outcome.{made_within}
use Rattle.cpg_hyper.proofs.unrolling.built.Goals as goal

-- the parts given are those of the graph of all instances, which is within the limits of a graph file
pub of-requires : goal.of-requires
of-requires c =
    let first = (get_or c.args.parts.now 0 c.index-parts-0.result).problem in
    let nodes : c.in_ok-nodes.nodes.items ≡ first.nodes = search rules in
    let slots : c.in_ok-slots.slots.items ≡ first.slots = search rules in
    made_within c.args.whole c.args.parts.now c.requires.some c.requires.few c.requires.over c.requires.within
    c.requires.counts first c.faults.result c.in_ok-nodes.nodes.items
    c.in_ok-slots.slots.items c.args.processes.items c.args.edges.items
    (first_there c.args.parts.now c.index-parts-0.result c.requires.some) c.faults.ensures.faults nodes slots
    c.requires.processes c.requires.edges
