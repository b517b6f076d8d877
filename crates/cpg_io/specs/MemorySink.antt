-- What contracts see of a sink in memory.
use Rattle.std.specs.Prelude.{ℕ, List}
use Rattle.cpg_io.specs.State.{SinkState}

-- a sink in memory
pub record MemorySinkState : Type 0 where
  -- the bytes that it took
  pub taken : List ℕ
  -- how many bytes it takes altogether
  pub room : ℕ
  -- the count of faults
  pub faults : ℕ

-- what the sink reports as a `Sink`
abbrev pub sink_of : MemorySinkState → SinkState
sink_of s = record { taken = s.taken; faults = s.faults }
