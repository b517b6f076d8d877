-- Proof of `order_of`, which returns the order as numbers of processes, or `None` if the document has none.
use Rattle.cpg_reader.specs.Shape.{raw_view}
use Rattle.cpg_reader.proofs.Limits.{few_processes}
use Rattle.cpg_reader.proofs.building.order_of.Goals as goal

-- a document within the limits has few enough processes for their numbers
pub numbers_of-requires : goal.numbers_of-requires
numbers_of-requires c =
    record { few = few_processes (raw_view c.args.raw.now) c.args.processes.now c.requires.limits c.requires.processes }
