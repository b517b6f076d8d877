-- No fetch of files that are read failed. If a file stops a run, a fetch failed only if the halt says so.
use Rattle.std.proofs.Common.{◌≡◌, ◌∙◌, false, List, [], ◌∷◌, ◌++◌, Option, sym, inl, inr}
use Rattle.std.specs.Prelude.{◌⊎◌}
use Rattle.std.proofs.lemmas.List.{append_assoc}
use Rattle.std.proofs.lemmas.List.Elements.{All-nil, All-push}
use Rattle.cpg_base.specs.Graph.{Graph}
use Rattle.cpg_history.specs.Fetch.{Fetch}
use Rattle.cpg_refusal.specs.declared.halt.Halt.{Halt}
use Rattle.cpg_refusal.specs.declared.halt.Halt.TheVariants.{Read}
use Rattle.cpg_inputs.specs.Files.{File}
use Rattle.cpg_inputs.specs.Says.{Value, graph_after}
use Rattle.cpg_inputs.specs.Reading.{AreSound, Reads, StopsAt, StopsReading}

-- the fetch didn't fail
abbrev IsSound : Fetch → Type 0
IsSound fetch = fetch.failed ≡ false

-- from a history to itself, no fetch failed
pub sound_none : (past now : List Fetch) → now ≡ past → AreSound past now
sound_none past now same = record { fetches = []; history = same; sound = All-nil IsSound }

-- if a fetch didn't fail, and none after it did, none of all of them failed
pub sound_on : (fetch : Fetch) (past now : List Fetch) → IsSound fetch → AreSound (fetch ∷ past) now → AreSound past now
sound_on fetch past now one s = record {
  fetches = s.fetches ++ fetch ∷ [];
  history = s.history ∙ sym (append_assoc s.fetches (fetch ∷ []) past);
  sound = All-push IsSound s.fetches fetch s.sound one;
}

-- if reading all `files` led from `past` to `now`, no fetch in between failed
pub reads_sound : (g : Option Graph) (files : List File) (past now : List Fetch) (vs : List Value) →
    Reads g files past now vs →
    AreSound past now
reads_sound g [] past now [] r = sound_none past now r
reads_sound g [] past now (v ∷ vs) r = absurd r
reads_sound g (f ∷ fs) past now [] r = absurd r
reads_sound g (f ∷ fs) past now (v ∷ vs) r =
    sound_on r.0 past now r.1.whole.sound (reads_sound (graph_after g v) fs (r.0 ∷ past) now vs r.2)

-- if file `f` stops the run with halt `h`, its fetch didn't fail, or the halt says that it did
stop_sound : (g : Option Graph) (f : File) (fetch : Fetch) (h : Halt) → StopsAt g f fetch h → IsSound fetch ⊎ (h ≡ Read)
stop_sound g f fetch h (inl unread) = inr unread.halt_is
stop_sound g f fetch h (inr (inl long)) = inl long.sound
stop_sound g f fetch h (inr (inr (inl refused))) = inl refused.whole.sound
stop_sound g f fetch h (inr (inr (inr wanting))) = inl wanting.sound

-- if the halt `h` stops the reading of `files`, no fetch between `past` and `now` failed, or `h` is a read fault
pub stops_sound : (g : Option Graph) (files : List File) (past now : List Fetch) (h : Halt) →
    StopsReading g files past now h →
    AreSound past now ⊎ (h ≡ Read)
stops_sound g [] past now h stops = absurd stops
stops_sound g (f ∷ fs) past now h (fetch, inl here) = elim (stop_sound g f fetch h here.0) [
  | inl one ↦ inl (sound_on fetch past now one (sound_none (fetch ∷ past) now here.1))
  | inr read ↦ inr read
]
stops_sound g (f ∷ fs) past now h (fetch, inr (v, read, there)) =
    elim (stops_sound (graph_after g v) fs (fetch ∷ past) now h there) [
      | inl rest ↦ inl (sound_on fetch past now read.whole.sound rest)
      | inr stopped ↦ inr stopped
    ]
