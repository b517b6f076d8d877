-- A run ends lawfully, by what its work answered and its sinks took.
use Rattle.std.proofs.Common.{◌≡◌, ◌≢◌, List, [], ◌∷◌, Option, None, arith, refl, inl, inr}
use Rattle.std.specs.Prelude.{◌⊎◌, Result, Ok, Err}
use Rattle.cpg_base.specs.Graph.{Graph}
use Rattle.cpg_history.specs.Fetch.{Fetch}
use Rattle.cpg_words.specs.Parts.{Text}
use Rattle.cpg_words.specs.Forms.{command_of}
use Rattle.cpg_words.specs.declared.fault.WordsFault.{WordsFault}
use Rattle.cpg_codec.specs.declared.fault.WriteFault.{WriteFault}
use Rattle.cpg_refusal.specs.declared.halt.Halt.{Halt}
use Rattle.cpg_refusal.specs.declared.halt.Halt.TheVariants.{Words, Read, Refused, Late, TooWide, Unsafe, Memory}
use Rattle.cpg_refusal.specs.Halts.{halt_of_words}
use Rattle.cpg_refusal.specs.Lines.{line_of, status_of}
use Rattle.cpg_inputs.specs.Files.{File}
use Rattle.cpg_inputs.specs.Says.{graph_after}
use Rattle.cpg_inputs.specs.Reading.{IsFetchOf, IsWanting, IsWhole, StopsAt, StopsReading}
use Rattle.cpg_outputs.specs.Told.{IsWritten, Sent, Untouched}
use Rattle.cpg_app.specs.Endings.{Prints, Ran, Stops}
use Rattle.cpg_outputs.specs.Said.{IsEnded, IsStopped}
use Rattle.cpg_app.specs.Lawful.{IsLawful}
use Rattle.cpg_app.proofs.Shown.{lawful_by, lawful_with}
use Rattle.cpg_app.proofs.Written.{stopped}

-- ---- memory may run out wherever a run stops, but for a fault of the shelf

-- a fetch of a whole file is one of the file
of_whole : (f : File) (fetch : Fetch) → IsWhole f fetch → IsFetchOf f fetch
of_whole f fetch whole = record { named = whole.named }

-- If file `f` stops a run with halt `h`, but not by a fault of the shelf, memory may have run out at the same fetch
-- instead. By why it stops.
wants_too : (g : Option Graph) (f : File) (fetch : Fetch) (h : Halt) → h ≢ Read → StopsAt g f fetch h →
    IsWanting f fetch Memory
wants_too g f fetch h other (inl unread) = absurd (other unread.halt_is)
wants_too g f fetch h other (inr (inl long)) =
    record { of = long.of; sound = long.sound; few = (let over = long.over in omega (arith, over)); halt_is = refl }
wants_too g f fetch h other (inr (inr (inl refused))) =
    record {
      of = of_whole f fetch refused.whole;
      sound = refused.whole.sound;
      few = (let short = refused.whole.short in omega (arith, short));
      halt_is = refl;
    }
wants_too g f fetch h other (inr (inr (inr wanting))) =
    record { of = wanting.of; sound = wanting.sound; few = wanting.few; halt_is = refl }

-- where the reading of files stops with halt `h`, but not by a fault of the shelf, it may have stopped as memory ran
-- out
files_memory : (g : Option Graph) (files : List File) (past now : List Fetch) (h : Halt) → h ≢ Read →
    StopsReading g files past now h →
    StopsReading g files past now Memory
files_memory g [] past now h other stops_reading = absurd stops_reading
files_memory g (f ∷ fs) past now h other (fetch, inl here) =
    (fetch, inl (inr (inr (inr (wants_too g f fetch h other here.0))), here.1))
files_memory g (f ∷ fs) past now h other (fetch, inr (v, read, there)) =
    (fetch, inr (v, read, files_memory (graph_after g v) fs (fetch ∷ past) now h other there))

-- given a run
module _ (r : Ran) where
  -- where a run stops, but not by a fault of the shelf, it may have stopped as memory ran out
  memory_too : (h : Halt) → h ≢ Read → Stops r h → Stops r Memory
  memory_too h other (inl words) = inl (record { unread = words.unread; cause = inr refl })
  memory_too h other (inr (inl files)) = inr (inl
      (record { command = files.command; words = files.words; stops = files_memory None _ _ _ h other files.stops }))
  memory_too h other (inr (inr work)) =
      inr (inr (record { command = work.command; values = work.values; has = work.has; stops = inr refl }))

  -- a run that stops, wrote nothing to `out`, and sent its line to `err` ends lawfully
  told_lawful : (h : Halt) → Stops r h → Untouched r.out → Sent r.err r.status (status_of h) (line_of h) → IsLawful r
  told_lawful h stops silent sent = lawful_by r h (record { stops = stops; ending = stopped r h silent sent })

  -- a run that stops is lawful if it sent its line or, as memory ran out for that, the line that says so
  either_lawful : (h : Halt) → h ≢ Read → Stops r h → Untouched r.out → Sent r.err r.status (status_of h) (line_of h) ⊎
      Sent r.err r.status (status_of Memory) (line_of Memory) → IsLawful r
  either_lawful h other stops silent (inl sent) = told_lawful h stops silent sent
  either_lawful h other stops silent (inr sent) = told_lawful Memory (memory_too h other stops) silent sent

  -- a run that stops, writes nothing to `out` and reports its halt ends lawfully
  pub stopped_lawful : (h : Halt) → Stops r h → Untouched r.out → IsStopped h r.err r.status → IsLawful r
  stopped_lawful Words stops silent said = told_lawful Words stops silent said
  stopped_lawful Read stops silent said = told_lawful Read stops silent said
  stopped_lawful (Refused refusal) stops silent said = either_lawful (Refused refusal) (λ e. cc) stops silent said
  stopped_lawful (Late a s p time) stops silent said = either_lawful (Late a s p time) (λ e. cc) stops silent said
  stopped_lawful (TooWide a x) stops silent said = either_lawful (TooWide a x) (λ e. cc) stops silent said
  stopped_lawful (Unsafe a fault) stops silent said = either_lawful (Unsafe a fault) (λ e. cc) stops silent said
  stopped_lawful Memory stops silent said = told_lawful Memory stops silent said

  -- A run whose output was written ends lawfully. By the result: it was taken whole, `out` met a fault, or memory ran
  -- out.
  pub written_lawful : (text : Text) (written : Result Unit WriteFault) → Prints r text → IsWritten r.out written text →
      IsEnded written r.err r.status → IsLawful r
  written_lawful text (Ok done) prints out ended = lawful_with r text
      (record { prints = prints; ending = inl (record { status = ended.0; out = out; err = ended.1 }) })
  written_lawful text (Err WriteFault.Failed) prints out ended = lawful_with r text
      (record { prints = prints; ending = inr (record { status = ended.0; out = out; err = ended.1 }) })
  written_lawful text (Err WriteFault.OutOfMemory) prints out ended =
      let stops : Stops r Memory =
      inr (inr (record { command = prints.command; values = prints.values; has = prints.has; stops = inr refl })) in
      told_lawful Memory stops out ended

  -- a run that has no command, and reports why, ends lawfully
  pub wordless_lawful : (fault : WordsFault) → (fault ≡ WordsFault.Bad → command_of r.words ≡ None) →
      r.shelf.new.history ≡ r.shelf.old.history →
      Untouched r.out →
      Sent r.err r.status (status_of (halt_of_words fault)) (line_of (halt_of_words fault)) → IsLawful r
  wordless_lawful WordsFault.Bad none unread silent sent =
      told_lawful Words (inl (record { unread = unread; cause = inl (refl, none refl) })) silent sent
  wordless_lawful WordsFault.OutOfMemory none unread silent sent =
      told_lawful Memory (inl (record { unread = unread; cause = inr refl })) silent sent
