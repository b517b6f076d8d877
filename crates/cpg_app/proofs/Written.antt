-- How a run ends, by what was written.
use Rattle.std.proofs.Common.{ℕ, List, ◌≡◌, refl, ap, subst, inl, inr}
use Rattle.std.specs.Prelude.{◌⊎◌, Result, Ok, Err, OnOk}
use Rattle.std.proofs.lemmas.Bool.{cases_eq}
use Rattle.cpg_io.specs.Causes.{Rose}
use Rattle.cpg_io.specs.Sink.{Took, TookPrefix}
use Rattle.cpg_io.specs.State.{SinkState}
use Rattle.cpg_codec.specs.declared.fault.WriteFault.{WriteFault}
use Rattle.cpg_refusal.specs.declared.halt.Halt.{Halt}
use Rattle.cpg_refusal.specs.Lines.{line_of, status_of}
use Rattle.cpg_outputs.specs.Told.{SinkSeen, Sent, Part, Untouched, IsWritten, sent}
use Rattle.cpg_app.specs.Endings.{Ran, IsTold, IsMuted}

-- the line of the halt was taken whole, or `err` met a fault
pub stopped : (r : Ran) (h : Halt) → Untouched r.out → Sent r.err r.status (status_of h) (line_of h) →
    IsTold r h ⊎ IsMuted r h
stopped r h silent sent = elim (cases_eq r.status 3) [
  | inl three ↦ inr (record { status = three; out = silent; err = sent.part three })
  | inr other ↦ inl (record { status = (sent.whole other).0; out = silent; err = (sent.whole other).1 })
]

-- if a write failed, a part was taken
pub cut_of : (sink : SinkSeen) (bytes : List ℕ) (fault : WriteFault) → fault ≡ WriteFault.Failed →
    IsWritten sink (Err fault) bytes → Part sink bytes
cut_of sink bytes fault is written = subst (λ f. IsWritten sink (Err f) bytes) is written

-- if memory ran out for a write, nothing was taken
pub none_of : (sink : SinkSeen) (bytes : List ℕ) (fault : WriteFault) → fault ≡ WriteFault.OutOfMemory →
    IsWritten sink (Err fault) bytes → Untouched sink
none_of sink bytes fault is written = subst (λ f. IsWritten sink (Err f) bytes) is written

-- By its result, a write took the bytes whole without a fault, a proper part of them with one, or nothing, as memory
-- ran out. So the bytes are written as its result says.
pub packed : (old new : SinkState) (bytes : List ℕ) (result : Result Unit WriteFault) →
    OnOk result (Took old.taken new.taken bytes) →
    OnOk result (new.faults ≡ old.faults) →
    (result ≡ Err WriteFault.Failed → TookPrefix old.taken new.taken bytes) →
    (result ≡ Err WriteFault.Failed → Rose old.faults new.faults) → (result ≡ Err WriteFault.OutOfMemory → new ≡ old) →
    IsWritten (sent old new) result bytes
packed old new bytes (Ok done) whole kept part cause same = record { faultless = kept; taken = whole }
packed old new bytes (Err WriteFault.Failed) whole kept part cause same =
    record { rose = cause refl; prefix = part refl }
packed old new bytes (Err WriteFault.OutOfMemory) whole kept part cause same =
    record {
      faultless = ap (λ (s : SinkState). s.faults) (same refl);
      taken = ap (λ (s : SinkState). s.taken) (same refl);
    }
