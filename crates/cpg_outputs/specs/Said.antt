-- What `err` and the exit status report at the end of a run.
use Rattle.std.specs.Prelude.{ℕ, ◌≡◌, ◌⊎◌, List, ◌∷◌, Result, Ok, Err}
use Rattle.cpg_history.specs.Fetch.{Fetch}
use Rattle.cpg_words.specs.Parts.{Text}
use Rattle.cpg_head.specs.Head.{Head}
use Rattle.cpg_table.specs.Table.{NodeTable}
use Rattle.cpg_codec.specs.declared.fault.WriteFault.{WriteFault}
use Rattle.cpg_refusal.specs.declared.halt.Halt.{Halt}
use Rattle.cpg_refusal.specs.declared.halt.Halt.TheVariants.{Words, Read, Memory}
use Rattle.cpg_refusal.specs.Lines.{line_of, status_of, write_fault_line}
use Rattle.cpg_live.specs.declared.following.Broken.{Broken}
use Rattle.cpg_live.specs.Following.{Breaks, Completes, Stream}
use Rattle.cpg_live.specs.Streams.{fault_line}
use Rattle.cpg_outputs.specs.Told.{SinkSeen, Sent, Whole, Untouched, Part}

-- What `err` and the status report of an output. Nothing, and 0, if it was written. After a fault of `out` the status is 3,
-- whether or not `err` took its line whole.
abbrev pub IsEnded : Result Unit WriteFault → SinkSeen → ℕ → Type 0
IsEnded (Ok done) err status = (status ≡ 0) × Untouched err
IsEnded (Err WriteFault.Failed) err status = (status ≡ 3) × (Whole err write_fault_line ⊎ Part err write_fault_line)
IsEnded (Err WriteFault.OutOfMemory) err status = Sent err status (status_of Memory) (line_of Memory)

-- What `err` and the status report of a run that stops: its line and its status, or those of out of memory if there is no
-- memory for the line. The first three lines need none.
abbrev pub IsStopped : Halt → SinkSeen → ℕ → Type 0
IsStopped Words err status = Sent err status (status_of Words) (line_of Words)
IsStopped Read err status = Sent err status (status_of Read) (line_of Read)
IsStopped Memory err status = Sent err status (status_of Memory) (line_of Memory)
IsStopped halt err status =
    Sent err status (status_of halt) (line_of halt) ⊎ Sent err status (status_of Memory) (line_of Memory)

-- what a run sees of a stream, by its fetch and by what `out` took meanwhile
abbrev pub streamed : Fetch → SinkSeen → Stream
streamed fetch out = record {
  fetch = fetch;
  faults_before = out.before;
  faults_after = out.now;
  taken_before = out.old;
  taken_after = out.new;
}

-- what `err` and the status report of a stream that isn't followed to its close: the shelf failed, `out` failed, or a record
-- was rejected (status 4)
abbrev pub IsSaid : SinkSeen → ℕ → Broken → Type 0
IsSaid err status Broken.Shelf = Sent err status (status_of Read) (line_of Read)
IsSaid err status Broken.Sink = (status ≡ 3) × (Whole err write_fault_line ⊎ Part err write_fault_line)
IsSaid err status (Broken.Refused fault) = Sent err status 4 (fault_line fault)

-- either the stream is followed to its close and nothing is reported, or it isn't and the cause is reported
abbrev pub IsToldTo : Head → NodeTable → Stream → SinkSeen → ℕ → Type 0
IsToldTo h table s err status = (Completes h table s × (status ≡ 0) × Untouched err) ⊎
    ((broken : Broken) × Breaks h table s broken × IsSaid err status broken)

-- how a run ends whose node follows a stream; `past` and `now` are the shelf's histories before and after
pub record IsFollowedAt (h : Head) (table : NodeTable) (name : Text) (past now : List Fetch) (out err : SinkSeen)
    (status : ℕ) : Type 0 where
  -- the one fetch, that of the stream
  pub fetch : Fetch
  pub named : fetch.name ≡ name
  pub history : now ≡ fetch ∷ past
  -- the stream is followed to its close, or the cause is reported
  pub ends : IsToldTo h table (streamed fetch out) err status
