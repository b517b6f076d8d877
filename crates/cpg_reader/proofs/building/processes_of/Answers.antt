-- Proof of `processes_of`, which returns the processes that a document says.
use Rattle.std.proofs.Common.{◌≤◌}
use Rattle.cpg_reader.specs.Shape.{raw_view}
use Rattle.cpg_base.specs.Natural.{natural}
use Rattle.cpg_reader.specs.declared.shape.RawProcess.{RawProcess}
use Rattle.cpg_reader.proofs.Limits.{few_nodes, small_processes, all_at}
use Rattle.cpg_reader.proofs.building.processes_of.Goals as goal

-- a document within the limits has few enough nodes for their numbers
pub process_of-requires-clause-few : goal.process_of-requires-clause-few
process_of-requires-clause-few c =
    few_nodes (raw_view c.args.raw.now) c.args.nodes.now c.requires.limits c.requires.nodes

-- the parts of each process of the document fit 16 bits
pub process_of-requires-clause-parts : goal.process_of-requires-clause-parts
process_of-requires-clause-parts c =
    all_at (λ (x : RawProcess). natural x.parts ≤ 65535) c.args.raw.now.processes.items c.deref-process-items.result.now
    c.loop-index.index c.process-item.result
    (small_processes (raw_view c.args.raw.now) c.requires.limits) c.deref-process-items.ensures.value
    c.loop-index-test.true c.process-item.is
