-- What a sink took by the present contract, it took by the earlier one.
use Rattle.std.proofs.Common.{ℕ, ◌≡◌, List, inl, inr}
use Rattle.std.specs.Prelude.{◌⊎◌}
use Rattle.cpg_refusal.specs.declared.halt.Halt.TheVariants.{Read}
use Rattle.cpg_refusal.specs.Lines.{line_of, write_fault_line}
use Rattle.cpg_live.specs.declared.following.Broken.{Broken}
use Rattle.cpg_live.specs.Streams.{fault_line}
use Rattle.cpg_outputs.specs.Said.{IsSaid as IsSaidRun}
use Rattle.cpg_outputs.specs.Told.{SinkSeen as SinkSeenRun, Part as PartRun, Sent as SentRun, Whole as WholeRun}
use Rattle.cpg_shelf_laws.specs.Endings.{IsSaid}
use Rattle.cpg_shelf_laws.specs.Sinks.{Part, Sent, Whole, telling}

-- a proper part that a sink took by the present contract, it took by the earlier one
pub part_told : (s : SinkSeenRun) (bytes : List ℕ) → PartRun s bytes → Part (telling s) bytes
part_told s bytes part_run = record { rose = part_run.rose; prefix = part_run.prefix }

-- bytes that a sink took whole or in part by the present contract, it took so by the earlier one
pub either_told : (s : SinkSeenRun) (bytes : List ℕ) → WholeRun s bytes ⊎ PartRun s bytes →
    Whole (telling s) bytes ⊎ Part (telling s) bytes
either_told s bytes either = elim either [ inl whole ↦ inl whole.taken | inr part ↦ inr (part_told s bytes part) ]

-- bytes that were sent to a sink by the present contract were sent by the earlier one
sent_told : (s : SinkSeenRun) (status wanted : ℕ) (bytes : List ℕ) → SentRun s status wanted bytes →
    Sent (telling s) status wanted bytes
sent_told s status wanted bytes sent = record {
  whole = λ other. let whole_taken = sent.whole other in (whole_taken.0, whole_taken.1.taken);
  part = λ three. part_told s bytes (sent.part three);
}

-- what was reported of a stream that isn't followed to its close was so by the earlier contract, too
pub said_told : (s : SinkSeenRun) (status : ℕ) (broken : Broken) → IsSaidRun s status broken →
    IsSaid (telling s) status broken
said_told s status Broken.Shelf said = sent_told s status 2 (line_of Read) said
said_told s status Broken.Sink said = (said.0, either_told s write_fault_line said.1)
said_told s status (Broken.Refused fault) said = sent_told s status 4 (fault_line fault) said
