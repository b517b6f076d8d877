-- What contracts see of a shelf over files and of a sink over a writer. The file and the writer may report their bytes; those
-- of the machine don't.
use Rattle.std.specs.Prelude.{ℕ, Bool, List, [], Option, Some, None}
use Rattle.cpg_history.specs.Fetch.{Fetch}
use Rattle.cpg_io.specs.State.{ShelfState, SinkState}

-- a shelf over files
pub record FileShelfState : Type 0 where
  -- whether a file is open
  pub is_open : Bool
  -- the bytes that are left to read, if they are known
  pub left : Option (List ℕ)
  -- the count of faults
  pub faults : ℕ
  -- all fetches, newest first, with what each gave
  pub history : List Fetch

-- what is left to read: nothing if no file is open, and else what the open file reports, which may be None
abbrev pub left_in : {File : Type 0} → (File → Option (List ℕ)) → Option File → Option (List ℕ)
left_in remaining None = Some []
left_in remaining (Some file) = remaining file

-- what the shelf reports as a `Shelf`: of no name what stands under it
abbrev pub shelf_of : FileShelfState → ShelfState
shelf_of s = record { stands = λ _. None; left = s.left; faults = s.faults; history = s.history }

-- a sink over a writer
pub record StreamSinkState : Type 0 where
  -- all bytes that the writer has, if it reports them
  pub contents : Option (List ℕ)
  -- the bytes that writes took and the flush after them acknowledged
  pub taken : List ℕ
  -- the count of faults
  pub faults : ℕ

-- what the sink reports as a `Sink`
abbrev pub sink_of : StreamSinkState → SinkState
sink_of s = record { taken = s.taken; faults = s.faults }
