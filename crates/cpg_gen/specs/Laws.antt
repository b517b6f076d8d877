-- Laws on generated graphs, which hold whatever number generates the graph.
use Rattle.std.specs.Prelude.{ℕ, ◌<◌, ◌≤◌}
use Rattle.cpg_base.specs.Graph.{edge_count, condition_count, source, target}
use Rattle.cpg_base.specs.Limits.{IsWithinLimits}
use Rattle.cpg_base.specs.WellFormed.{WellFormed, HasSenderSlots}
use Rattle.cpg_gen.specs.Generated.{generated}

-- a generated graph is within the limits of a graph file: its numbers are in range, and no name is there twice
abbrev pub GeneratedAreWithinLimits : Type 0
GeneratedAreWithinLimits = (number : ℕ) → IsWithinLimits (generated number)

-- in a generated graph each number of a node or a process is that of one
abbrev pub GeneratedAreWellFormed : Type 0
GeneratedAreWellFormed = (number : ℕ) → WellFormed (generated number)

-- in a generated graph each node that sends has a slot
abbrev pub GeneratedHaveSenderSlots : Type 0
GeneratedHaveSenderSlots = (number : ℕ) → HasSenderSlots (generated number)

-- each edge of a generated graph leads from a process to one with a greater number, so there is no cycle
abbrev pub GeneratedEdgesRise : Type 0
GeneratedEdgesRise =
    (number e : ℕ) → e < edge_count (generated number) → source (generated number) e < target (generated number) e

-- a generated graph has at most two conditions
abbrev pub GeneratedHaveFewConditions : Type 0
GeneratedHaveFewConditions = (number : ℕ) → condition_count (generated number) ≤ 2
