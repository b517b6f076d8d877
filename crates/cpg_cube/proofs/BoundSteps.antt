-- The bounds of a cube, literal by literal.
use Rattle.std.proofs.Common.{ℕ, ◌+◌, ◌<◌, ◌≡◌, ◌≢◌, max, ◌==◌, List, [], ◌∷◌, ◌++◌, length, get_or, take, Contains}
use Rattle.std.proofs.Common.{replicate, arith, refl, sym, ap, ◌∙◌, subst, ⊎_elim, eq-eqb, ne_eqb}
use Rattle.std.specs.Prelude.{slice_set, slice_index_or}
use Rattle.std.proofs.lemmas.Bool.{cases_eq, cond-true, cond-false}
use Rattle.std.proofs.lemmas.List.{get_or-replicate, get_or-take, get_or-set_same, get_or-set_other, get_or_default}
use Rattle.std.proofs.lemmas.List.{length-take-le, take_more}
use Rattle.cpg_base.proofs.Lists.{Contains-first, Contains-rest}
use Rattle.cpg_cube.specs.Cube.{Literal, IsRising, low_in}
use Rattle.cpg_cube.specs.Bounds.{bound_in, AreBounds, AreRaised}
use Rattle.cpg_cube.proofs.CubeLows.{low_in-none}

-- 0 and 255 for each variable are the bounds of the cube without literals
pub bounds_whole : AreBounds [] (replicate 256 0) (replicate 256 255)
bounds_whole = record {
  low = λ v small. get_or-replicate 256 v 0 0 small;
  high = λ v small. get_or-replicate 256 v 255 0 small;
}

-- ---- one literal more, above the others

-- given: the first literal l of a list, and a variable v
module _ (l : Literal) (v : ℕ) where
  -- the first literal gives the low of its own variable
  pub low_here : (ls : List Literal) → l.variable ≡ v → low_in (l ∷ ls) v ≡ l.low
  low_here ls same = cond-true (l.variable == v) l.low (low_in ls v) (eq-eqb l.variable v same)

  -- a first literal on another variable leaves the low of a variable
  pub low_else : (ls : List Literal) → l.variable ≢ v → low_in (l ∷ ls) v ≡ low_in ls v
  low_else ls other = cond-false (l.variable == v) l.low (low_in ls v) (ne_eqb l.variable v other)

  -- the first literal gives the bound of its own variable
  pub bound_here : (ls : List Literal) → l.variable ≡ v → bound_in (l ∷ ls) v ≡ l.high
  bound_here ls same = cond-true (l.variable == v) l.high (bound_in ls v) (eq-eqb l.variable v same)

  -- a first literal on another variable leaves the bound of a variable
  pub bound_else : (ls : List Literal) → l.variable ≢ v → bound_in (l ∷ ls) v ≡ bound_in ls v
  bound_else ls other = cond-false (l.variable == v) l.high (bound_in ls v) (ne_eqb l.variable v other)

-- a literal put last on a variable above all others gives the low of that variable
pub low_in-last : (ls : List Literal) (l : Literal) → ((m : Literal) → Contains ls m → m.variable < l.variable) →
    low_in (ls ++ l ∷ []) l.variable ≡ l.low
-- by induction on the literals
low_in-last [] l lower = low_here l l.variable [] refl
low_in-last (m ∷ ms) l lower =
    let less = lower m (Contains-first m ms) in
    low_else m l.variable (ms ++ l ∷ []) (λ equal. omega arith)
    ∙ low_in-last ms l (λ n member. lower n (Contains-rest m ms n member))

-- a literal put last leaves the lows of other variables
pub low_in-before : (ls : List Literal) (l : Literal) (v : ℕ) → l.variable ≢ v → low_in (ls ++ l ∷ []) v ≡ low_in ls v
-- by induction on the literals, and by whether `m.variable` is `v`
low_in-before [] l v other = low_else l v [] other
low_in-before (m ∷ ms) l v other = ⊎_elim
    (λ (here : m.variable ≡ v). low_here m v (ms ++ l ∷ []) here ∙ sym (low_here m v ms here))
    (λ (elsewhere : m.variable ≡ v → ⊥). low_else m v (ms ++ l ∷ []) elsewhere ∙ low_in-before ms l v other
    ∙ sym (low_else m v ms elsewhere))
    (cases_eq m.variable v)

-- the bound of the last literal's variable is its high
bound_in-last : (ls : List Literal) (l : Literal) → ((m : Literal) → Contains ls m → m.variable < l.variable) →
    bound_in (ls ++ l ∷ []) l.variable ≡ l.high
-- by induction on the literals
bound_in-last [] l lower = bound_here l l.variable [] refl
bound_in-last (m ∷ ms) l lower =
    let less = lower m (Contains-first m ms) in
    bound_else m l.variable (ms ++ l ∷ []) (λ equal. omega arith)
    ∙ bound_in-last ms l (λ n member. lower n (Contains-rest m ms n member))

-- a literal put last leaves the bounds of other variables
bound_in-before : (ls : List Literal) (l : Literal) (v : ℕ) → l.variable ≢ v → bound_in (ls ++ l ∷ []) v ≡ bound_in ls v
-- by induction on the literals, and by whether `m.variable` is `v`
bound_in-before [] l v other = bound_else l v [] other
bound_in-before (m ∷ ms) l v other = ⊎_elim
    (λ (here : m.variable ≡ v). bound_here m v (ms ++ l ∷ []) here ∙ sym (bound_here m v ms here))
    (λ (elsewhere : m.variable ≡ v → ⊥). bound_else m v (ms ++ l ∷ []) elsewhere ∙ bound_in-before ms l v other
    ∙ sym (bound_else m v ms elsewhere))
    (cases_eq m.variable v)

-- given: a place of a rising list of literals
module _ (ls : List Literal) (i : ℕ) (d : Literal) (rising : IsRising ls) (within : i < length ls) where
  -- the literals before a place are on lower variables than the literal there
  pub lower_before : (m : Literal) → Contains (take i ls) m → m.variable < (slice_index_or ls i d).variable
  lower_before m member =
      let long = length-take-le i ls (omega arith) in
      let inside = member.1 in
      let place : member.0 < i = omega arith in
      let same : m ≡ get_or ls member.0 d =
      sym member.2 ∙ get_or-take i ls member.0 m place ∙ get_or_default ls member.0 m d (omega arith) in
      subst (λ (n : Literal). n.variable < (slice_index_or ls i d).variable) (sym same)
      (rising member.0 i d place within)

  -- writing the range of the next literal makes the bounds of one literal more
  pub bounds_push : (lows highs : List ℕ) → length lows ≡ 256 → length highs ≡ 256 →
      (slice_index_or ls i d).variable < 256 →
      AreBounds (take i ls) lows highs
      → AreBounds (take (i + 1) ls) (slice_set lows (slice_index_or ls i d).variable (slice_index_or ls i d).low)
      (slice_set highs (slice_index_or ls i d).variable (slice_index_or ls i d).high)
  -- at the literal's variable its range is written; at any other the range of the literals before stays
  bounds_push lows highs lows_long highs_long small are =
      let l = slice_index_or ls i d in
      subst (λ c. AreBounds c (slice_set lows l.variable l.low) (slice_set highs l.variable l.high))
      (sym (take_more ls i d within)) (record {
        -- the literal's variable gets its low, and the others keep theirs
        low = λ v small_v. ⊎_elim
            (λ (same : l.variable ≡ v).
            subst (λ w. get_or (slice_set lows l.variable l.low) w 0 ≡ low_in (take i ls ++ l ∷ []) w) same
            (get_or-set_same lows l.variable l.low 0 (omega arith)
            ∙ sym (low_in-last (take i ls) l (λ k member. lower_before k member))))
            (λ (other : l.variable ≡ v → ⊥). get_or-set_other lows l.variable v l.low 0 (λ equal. other (sym equal))
            ∙ are.low v small_v
            ∙ sym (low_in-before (take i ls) l v other))
            (cases_eq l.variable v);
        -- the literal's variable gets its high, and the others keep theirs
        high = λ v small_v. ⊎_elim
            (λ (same : l.variable ≡ v).
            subst (λ w. get_or (slice_set highs l.variable l.high) w 0 ≡ bound_in (take i ls ++ l ∷ []) w) same
            (get_or-set_same highs l.variable l.high 0 (omega arith)
            ∙ sym (bound_in-last (take i ls) l (λ k member. lower_before k member))))
            (λ (other : l.variable ≡ v → ⊥). get_or-set_other highs l.variable v l.high 0 (λ equal. other (sym equal))
            ∙ are.high v small_v
            ∙ sym (bound_in-before (take i ls) l v other))
            (cases_eq l.variable v);
      })

  -- raising by the low of the next literal makes the lows raised by one literal more
  pub raised_push : (lows later : List ℕ) → length later ≡ 256 → (slice_index_or ls i d).variable < 256 →
      AreRaised (take i ls) lows later
      → AreRaised (take (i + 1) ls) lows (slice_set later (slice_index_or ls i d).variable
      (max (get_or later (slice_index_or ls i d).variable 0) (slice_index_or ls i d).low))
  -- at the literal's variable the low is the greater of the two; at any other it stays
  raised_push lows later later_long small are v small_v =
      let l = slice_index_or ls i d in
      let raised = max (get_or later l.variable 0) l.low in
      subst (λ c. get_or (slice_set later l.variable raised) v 0 ≡ max (get_or lows v 0) (low_in c v))
      (sym (take_more ls i d within)) (⊎_elim
      -- the literal's variable is raised by its low
      (λ (same : l.variable ≡ v). subst
      (λ w. get_or (slice_set later l.variable raised) w 0 ≡ max (get_or lows w 0) (low_in (take i ls ++ l ∷ []) w))
      same
      (let set_is = get_or-set_same later l.variable raised 0 (omega arith) in
      let was = are l.variable small in
      let low_is = low_in-last (take i ls) l (λ k member. lower_before k member) in
      let low_before = low_in-none (take i ls) l.variable
      (λ k member. let lower = lower_before k member in (λ equal. omega arith)) in
      omega arith))
      -- the lows of other variables stay
      (λ (other : l.variable ≡ v → ⊥). get_or-set_other later l.variable v raised 0 (λ equal. other (sym equal))
      ∙ are v small_v
      ∙ ap (max (get_or lows v 0)) (sym (low_in-before (take i ls) l v other)))
      (cases_eq l.variable v))
