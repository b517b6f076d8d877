-- What a run saw of its sinks while a sink didn't have to report what it took. If a sink reports nothing, nothing is
-- required of what it took.
use Rattle.std.specs.Prelude.{ℕ, ◌≡◌, ◌≢◌, ◌<◌, List, Option, Some, length, take}
use Rattle.std.specs.Io.KnownBytes.{Appends, Keeps}
use Rattle.cpg_io.specs.Causes.{Rose}
use Rattle.cpg_outputs.specs.Told.{SinkSeen as SinkSeenRun}

-- the known bytes grew by a proper prefix of the piece
abbrev pub TookPrefix : Option (List ℕ) → Option (List ℕ) → List ℕ → Type 0
TookPrefix old new piece = (n : ℕ) × (n < length piece) × Appends old new (take n piece)

-- what a run sees of a sink: its count of faults and its bytes, before and after
pub record SinkSeen : Type 0 where
  -- the counts of faults before and after
  pub before : ℕ
  pub now : ℕ
  -- the bytes before and after, if they are known
  pub old : Option (List ℕ)
  pub new : Option (List ℕ)

-- the bytes were taken whole
abbrev pub Whole : SinkSeen → List ℕ → Type 0
Whole sink bytes = Appends sink.old sink.new bytes

-- nothing was taken
abbrev pub Untouched : SinkSeen → Type 0
Untouched sink = Keeps sink.old sink.new

-- the sink met a fault, and took a proper prefix of the bytes
pub record Part (sink : SinkSeen) (bytes : List ℕ) : Type 0 where
  pub rose : Rose sink.before sink.now
  -- if the bytes before and after are known, they say how far it came
  pub prefix : TookPrefix sink.old sink.new bytes

-- Bytes were sent to a sink under a status. Status 3 means that the sink met a fault; under any other they were taken
-- whole.
pub record Sent (sink : SinkSeen) (status wanted : ℕ) (bytes : List ℕ) : Type 0 where
  pub whole : status ≢ 3 → (status ≡ wanted) × Whole sink bytes
  pub part : status ≡ 3 → Part sink bytes

-- what a run sees of a sink as sinks are now, which always report what they took
abbrev pub telling : SinkSeenRun → SinkSeen
telling s = record { before = s.before; now = s.now; old = Some s.old; new = Some s.new }
