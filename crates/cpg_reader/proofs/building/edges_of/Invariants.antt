-- Loops of `edges_of`, which returns the edges that a document says.
use Rattle.std.proofs.Common.{◌≡◌, drop}
use Rattle.cpg_reader.specs.Reading.{each}
use Rattle.cpg_reader.specs.Names.{edge_of}
use Rattle.cpg_reader.proofs.Each.{after}
use Rattle.cpg_reader.proofs.building.edges_of.Given as goal

-- reading all edges gives what reading those that are left gives, after the edges built so far
abbrev pub invariant-loop-index : goal.invariant-loop-index
invariant-loop-index l = after l.edges.items (each (edge_of l.fn.processes) l.index (drop l.index l.fn.raw.edges.items))
    ≡ each (edge_of l.fn.processes) 0 l.fn.raw.edges.items
