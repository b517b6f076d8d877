-- Loops of `processes_of`, which returns the processes that a document says.
use Rattle.std.proofs.Common.{◌≡◌, drop}
use Rattle.cpg_reader.specs.Reading.{each}
use Rattle.cpg_reader.specs.Names.{process_of}
use Rattle.cpg_reader.proofs.Each.{after}
use Rattle.cpg_reader.proofs.building.processes_of.Given as goal

-- reading all processes gives what reading those that are left gives, after the processes built so far
abbrev pub invariant-loop-index : goal.invariant-loop-index
invariant-loop-index l =
    after l.processes.items (each (process_of l.fn.nodes) l.index (drop l.index l.fn.raw.processes.items))
    ≡ each (process_of l.fn.nodes) 0 l.fn.raw.processes.items
