-- What was written to a sink.
use Rattle.std.specs.Prelude.{ℕ, ◌≡◌, ◌≢◌, List, Result, Ok, Err}
use Rattle.cpg_io.specs.Causes.{Rose}
use Rattle.cpg_io.specs.Sink.{Took, TookPrefix}
use Rattle.cpg_io.specs.State.{SinkState}
use Rattle.cpg_codec.specs.declared.fault.WriteFault.{WriteFault}

-- a sink before and after a run
pub record SinkSeen : Type 0 where
  -- the count of faults before the run, and after
  pub before : ℕ
  pub now : ℕ
  -- the bytes that it had taken before the run, and after
  pub old : List ℕ
  pub new : List ℕ

-- what was written to a sink, from its states before and after a run
abbrev pub sent : SinkState → SinkState → SinkSeen
sent old new = record { before = old.faults; now = new.faults; old = old.taken; new = new.taken }

-- the sink took just these bytes, and met no fault
pub record Whole (sink : SinkSeen) (bytes : List ℕ) : Type 0 where
  pub faultless : sink.now ≡ sink.before
  pub taken : Took sink.old sink.new bytes

-- the sink took nothing, and met no fault
pub record Untouched (sink : SinkSeen) : Type 0 where
  pub faultless : sink.now ≡ sink.before
  pub taken : sink.new ≡ sink.old

-- the sink met a fault, and took a proper prefix of the bytes
pub record Part (sink : SinkSeen) (bytes : List ℕ) : Type 0 where
  pub rose : Rose sink.before sink.now
  pub prefix : TookPrefix sink.old sink.new bytes

-- bytes were sent to a sink, and the status tells how that went
pub record Sent (sink : SinkSeen) (status wanted : ℕ) (bytes : List ℕ) : Type 0 where
  -- any status but 3 is the wanted one, and the sink took the bytes whole
  pub whole : status ≢ 3 → (status ≡ wanted) × Whole sink bytes
  -- status 3 means that the sink met a fault
  pub part : status ≡ 3 → Part sink bytes

-- What a sink took of an output, by the result of writing it: all of it, a proper prefix at a fault, or nothing if memory
-- ran out before anything was written.
abbrev pub IsWritten : SinkSeen → Result Unit WriteFault → List ℕ → Type 0
IsWritten sink (Ok done) bytes = Whole sink bytes
IsWritten sink (Err WriteFault.Failed) bytes = Part sink bytes
IsWritten sink (Err WriteFault.OutOfMemory) bytes = Untouched sink
