-- A graph with another fault number.
use Rattle.std.specs.Prelude.{ℕ}
use Rattle.cpg_base.specs.Graph.{Graph}

-- the graph with this fault number in place of its own, and otherwise unchanged
abbrev pub with_fault_number : Graph → ℕ → Graph
with_fault_number g faults = record g { faults = faults }
