-- Events at the same time, in any order. An event comes with its time.
use Rattle.std.specs.Prelude.{ℕ, ◌≡◌, List, [], ◌∷◌, ◌++◌, None}
use Rattle.cpg_live.specs.declared.event.Event.{Event}
use Rattle.cpg_live.specs.Stream.{NodeProgress, lawful}
use Rattle.cpg_live.specs.Told.{follow}
use Rattle.cpg_live.specs.Spelling.{RiseWithin}

-- the first list has the events of the second, each as often, in some order: its first one is somewhere in the second,
-- and the others are those that are left there
abbrev pub AreThoseOf : List (ℕ × Event) → List (ℕ × Event) → Type 0
AreThoseOf [] es = es ≡ []
AreThoseOf (f ∷ fs) es = (before : List (ℕ × Event)) × (after : List (ℕ × Event)) × (es ≡ before ++ f ∷ after) ×
    AreThoseOf fs (before ++ after)

-- If events are lawful in one order in which time doesn't fall, they are lawful in every such order, and lead to the same
-- state.
abbrev pub EventsOfOneTimeCommute : Type 0
EventsOfOneTimeCommute = (p : NodeProgress) (from to : ℕ) (es fs : List (ℕ × Event)) → RiseWithin from to es →
    RiseWithin from to fs → AreThoseOf fs es →
    (follow (lawful p) es).fault ≡ None → follow (lawful p) fs ≡ follow (lawful p) es
