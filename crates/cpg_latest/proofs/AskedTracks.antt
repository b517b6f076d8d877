-- The list of what the tracks say of a process, and one more at its end.
use Rattle.std.proofs.Common.{◌≡◌, ◌∙◌, ℕ, ◌+◌, ◌<◌, List, [], ◌∷◌, ◌++◌, length, length-append, take, get_or, arith}
use Rattle.std.proofs.Common.{sym, ap, ap₂, inl, inr, subst}
use Rattle.std.proofs.lemmas.Bool.{cases_lt}
use Rattle.std.proofs.lemmas.List.{get_or-map, get_or_append_left, map-append, take_more}
use Rattle.std.proofs.Math.Seq.{get_or-append_seam}
use Rattle.cpg_base.specs.Graph.{Graph}
use Rattle.cpg_base.specs.Scenario.{Scenario}
use Rattle.cpg_rules.specs.Guards.{Guards}
use Rattle.cpg_latest.specs.Course.{AreAsked, IsAsked, outcomes_asked, outcomes_of}
use Rattle.cpg_latest.specs.Tracks.{track_at}
use Rattle.cpg_latest.specs.declared.asking.Asked.{Asked}

-- the outcome of the track at a place
pub outcome_at : (scenarios : List Scenario) (i : ℕ) (d : Scenario) → i < length scenarios →
    track_at (outcomes_of scenarios) i ≡ (get_or scenarios i d).values
outcome_at scenarios i d within = get_or-map (λ s. s.values) scenarios i d [] within

-- the track at a place has the outcome that was asked there
pub outcome_asked : (asked : List Asked) (i : ℕ) (d : Asked) → i < length asked →
    track_at (outcomes_asked asked) i ≡ (get_or asked i d).scenario.now.values
outcome_asked asked i d within = get_or-map (λ a. a.scenario.now.values) asked i d [] within

-- if each of a list is what an outcome says of the process, and one more is, so is each of the list with that one
pub asked_more : (g : Graph) (guards : Guards) (p : ℕ) (asked more : List Asked) (one : Asked) →
    AreAsked g guards p asked → IsAsked g guards p one →
    more ≡ asked ++ one ∷ [] →
    AreAsked g guards p more
asked_more g guards p asked more one a is all i d l = elim (cases_lt i (length asked)) [
  | inl h ↦ subst (IsAsked g guards p)
      (sym (ap (λ xs. get_or xs i d) all ∙ get_or_append_left asked (one ∷ []) d i h)) (a i d h)
  | inr h ↦ let at : i ≡ length asked = omega (arith, h, l, ap length all, length-append asked (one ∷ [])) in
      subst (IsAsked g guards p) (sym (ap₂ (λ xs k. get_or xs k d) all at ∙ get_or-append_seam asked one [] d)) is
]

-- if the outcomes asked are those of the first i scenarios, with one more they are those of the first i + 1
pub outcomes_more : (asked more : List Asked) (one : Asked) (scenarios : List Scenario) (i : ℕ) (d : Scenario) →
    outcomes_asked asked ≡ outcomes_of (take i scenarios) →
    i < length scenarios
    → one.scenario.now.values ≡ (get_or scenarios i d).values → more ≡ asked ++ one ∷ [] →
    outcomes_asked more ≡ outcomes_of (take (i + 1) scenarios)
outcomes_more asked more one scenarios i d before within same all =
    ap outcomes_asked all ∙ map-append (λ (a : Asked). a.scenario.now.values) asked (one ∷ [])
    ∙ ap₂ (λ xs v. xs ++ v ∷ []) before same
    ∙ sym (ap outcomes_of (take_more scenarios i d within)
    ∙ map-append (λ (s : Scenario). s.values) (take i scenarios) (get_or scenarios i d ∷ []))
