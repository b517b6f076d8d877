-- The ranges of a cube that is narrowed by one literal.
use Rattle.std.proofs.Common.{◌≡◌, ◌≢◌, ◌∙◌, ℕ, ◌<◌, ◌≤◌, max, min, List, [], ◌∷◌, Contains, arith, refl, sym, ap, inl}
use Rattle.std.proofs.Common.{inr}
use Rattle.std.proofs.lemmas.Bool.{cases_eq, cases_order}
use Rattle.cpg_base.proofs.Lists.{Contains-cases}
use Rattle.cpg_cube.specs.Cube.{Literal, IsRising, low_in, high_in}
use Rattle.cpg_base.specs.Variable.{top}
use Rattle.cpg_cube.specs.Narrow.{meet_literal, narrowed_by}
use Rattle.cpg_cube.proofs.CubeLows.{low_in-later, low_in-none}
use Rattle.cpg_cube.proofs.Narrow.{narrowed-before, narrowed-here, narrowed-after}
use Rattle.cpg_cube.proofs.Ranges.{rising_rest, rising_first, low_in-here, high_in-here, high_in-later, high_in-none}

-- if v is below the variable of the first literal of a rising cube, no literal of the cube is on v
above_first : (v : ℕ) (m : Literal) (ms : List Literal) → IsRising (m ∷ ms) → v < m.variable → (x : Literal) →
    Contains (m ∷ ms) x → x.variable ≢ v
above_first v m ms rises below x member on_v = elim (Contains-cases m ms x member) [
  | inl is_m ↦ absurd (omega (arith, ap (λ (y : Literal). y.variable) is_m))
  | inr in_rest ↦ absurd (omega (arith, rising_first m x ms rises in_rest))
]

-- ---- the ranges of a cube narrowed by one literal

-- given: the number k of faults, and the literal l that narrows a cube
module _ (k : ℕ) (l : Literal) where
  -- narrowing by a literal leaves the lows of other variables
  pub low-other : (cube : List Literal) (v : ℕ) → l.variable ≢ v → low_in (narrowed_by l cube) v ≡ low_in cube v
  -- by induction on the literals, and by whether `m.variable` is `v`
  low-other [] v other = low_in-later l [] v other
  low-other (m ∷ ms) v other = elim (cases_order l.variable m.variable) [
    | inl same ↦ let m_other : m.variable ≢ v = λ on_v. other (omega (arith, same, on_v)) in
        ap (λ c. low_in c v) (narrowed-here l m ms same) ∙ low_in-later (meet_literal l m) ms v m_other
        ∙ sym (low_in-later m ms v m_other)
    | inr (inl below) ↦ ap (λ c. low_in c v) (narrowed-before l m ms below) ∙ low_in-later l (m ∷ ms) v other
    | inr (inr above) ↦ ap (λ c. low_in c v) (narrowed-after l m ms above) ∙ elim (cases_eq m.variable v) [
      | inl on_v ↦ low_in-here m (narrowed_by l ms) v on_v ∙ sym (low_in-here m ms v on_v)
      | inr m_other ↦ low_in-later m (narrowed_by l ms) v m_other ∙ low-other ms v other
          ∙ sym (low_in-later m ms v m_other)
    ]
  ]

  -- narrowing by a literal leaves the highs of other variables
  pub high-other : (cube : List Literal) (v : ℕ) → l.variable ≢ v → high_in k (narrowed_by l cube) v ≡ high_in k cube v
  -- by induction on the literals, and by whether `m.variable` is `v`
  high-other [] v other = high_in-later k l [] v other
  high-other (m ∷ ms) v other = elim (cases_order l.variable m.variable) [
    | inl same ↦ let m_other : m.variable ≢ v = λ on_v. other (omega (arith, same, on_v)) in
        ap (λ c. high_in k c v) (narrowed-here l m ms same) ∙ high_in-later k (meet_literal l m) ms v m_other
        ∙ sym (high_in-later k m ms v m_other)
    | inr (inl below) ↦ ap (λ c. high_in k c v) (narrowed-before l m ms below) ∙ high_in-later k l (m ∷ ms) v other
    | inr (inr above) ↦ ap (λ c. high_in k c v) (narrowed-after l m ms above) ∙ elim (cases_eq m.variable v) [
      | inl on_v ↦ high_in-here k m (narrowed_by l ms) v on_v ∙ sym (high_in-here k m ms v on_v)
      | inr m_other ↦ high_in-later k m (narrowed_by l ms) v m_other ∙ high-other ms v other
          ∙ sym (high_in-later k m ms v m_other)
    ]
  ]

  -- the low of the literal's variable becomes the greater of both lows
  pub low-same : (cube : List Literal) → IsRising cube →
      low_in (narrowed_by l cube) l.variable ≡ max l.low (low_in cube l.variable)
  -- by induction on the literals
  low-same [] rises = low_in-here l [] l.variable refl ∙ omega arith
  -- m is on the variable, and is met with l; or m is on a later one, and l, put before it, is alone; or l is left to
  -- the rest
  low-same (m ∷ ms) rises = elim (cases_order l.variable m.variable) [
    | inl same ↦ ap (λ c. low_in c l.variable) (narrowed-here l m ms same)
        ∙ low_in-here (meet_literal l m) ms l.variable (sym same)
        ∙ sym (ap (max l.low) (low_in-here m ms l.variable (sym same)))
    | inr (inl below) ↦
        let zero_low : low_in (m ∷ ms) l.variable ≡ 0 =
        low_in-none (m ∷ ms) l.variable (above_first l.variable m ms rises below) in
        ap (λ c. low_in c l.variable) (narrowed-before l m ms below) ∙ low_in-here l (m ∷ ms) l.variable refl
        ∙ omega (arith, zero_low)
    | inr (inr above) ↦ let m_other : m.variable ≢ l.variable = λ equal. omega (arith, above, equal) in
        ap (λ c. low_in c l.variable) (narrowed-after l m ms above)
        ∙ low_in-later m (narrowed_by l ms) l.variable m_other
        ∙ low-same ms (rising_rest m ms rises)
        ∙ ap (max l.low) (sym (low_in-later m ms l.variable m_other))
  ]

  -- the high of the literal's variable becomes the lesser of both highs
  pub high-same : (cube : List Literal) → IsRising cube → l.high ≤ top k l.variable →
      high_in k (narrowed_by l cube) l.variable ≡ min l.high (high_in k cube l.variable)
  -- by induction on the literals
  high-same [] rises below_top = high_in-here k l [] l.variable refl ∙ omega arith
  -- m is on the variable, and is met with l; or m is on a later one, and l, put before it, is alone; or l is left to
  -- the rest
  high-same (m ∷ ms) rises below_top = elim (cases_order l.variable m.variable) [
    | inl same ↦ ap (λ c. high_in k c l.variable) (narrowed-here l m ms same)
        ∙ high_in-here k (meet_literal l m) ms l.variable (sym same)
        ∙ sym (ap (min l.high) (high_in-here k m ms l.variable (sym same)))
    | inr (inl below) ↦
        let top_high : high_in k (m ∷ ms) l.variable ≡ top k l.variable =
        high_in-none k (m ∷ ms) l.variable (above_first l.variable m ms rises below) in
        ap (λ c. high_in k c l.variable) (narrowed-before l m ms below) ∙ high_in-here k l (m ∷ ms) l.variable refl
        ∙ omega (arith, top_high)
    | inr (inr above) ↦ let m_other : m.variable ≢ l.variable = λ equal. omega (arith, above, equal) in
        ap (λ c. high_in k c l.variable) (narrowed-after l m ms above)
        ∙ high_in-later k m (narrowed_by l ms) l.variable m_other
        ∙ high-same ms (rising_rest m ms rises) below_top
        ∙ ap (min l.high) (sym (high_in-later k m ms l.variable m_other))
  ]
