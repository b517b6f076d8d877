-- The ranges of cubes when literals are left out or one is raised; and that ranges decide a cube without literals of
-- the whole range.
use Rattle.std.proofs.Common.{ℕ, ◌<◌, ◌≤◌, ◌≡◌, ◌≢◌, ◌⊎◌, Bool, true, false, not, cond, ◌==◌, List, [], ◌∷◌, length}
use Rattle.std.proofs.Common.{take, Contains, All, get_or, arith, refl, sym, ap, ap₂, ◌∙◌, subst, ⊎_elim}
use Rattle.std.proofs.Common.{eqb-true}
use Rattle.std.specs.List.{list_any}
use Rattle.std.proofs.lemmas.Bool.{cases_eq, and_parts, or_parts, not-true, eqb-false}
use Rattle.std.proofs.lemmas.List.{get_or-take, get_or_default, length-take-le}
use Rattle.std.proofs.lemmas.List.Folds.{list_any_none}
use Rattle.std.proofs.lemmas.List.Elements.{All-contains, All-same, All-filter, All-map, All-weaker, Contains-get_or}
use Rattle.cpg_base.proofs.Lists.{Contains-first, Contains-rest, Contains-filter_parts}
use Rattle.cpg_base.proofs.Pairs.{AllPairs-map}
use Rattle.cpg_base.proofs.Sorted.{same_sorted}
use Rattle.cpg_cube.specs.declared.literal.Literal.{Literal}
use Rattle.cpg_cube.specs.Cube.{IsRising, low_in, high_in, is_whole}
use Rattle.cpg_base.specs.Variable.{top}
use Rattle.cpg_cube.proofs.Ranges.{IsNarrow, rising_rest, rising_first, low_in-here, high_in-here, high_in-later}
use Rattle.cpg_cube.proofs.Ranges.{high_in-none, range_of_literal, narrow}
use Rattle.cpg_cube.proofs.CubeLows.{low_in-later, low_in-none}
use Rattle.cpg_cube.specs.declared.column.Column.{Column}
use Rattle.cpg_merging.specs.Merged.{HaveNoWhole}
use Rattle.cpg_merging.specs.Merging.{shorn, all_shorn, without, raised}
use Rattle.cpg_cube.proofs.Ranges.{same_literal}

-- if xs and ys have the same low of v, they still do with the literal l in front of both
same_low : (l : Literal) (xs ys : List Literal) (v : ℕ) → low_in xs v ≡ low_in ys v →
    low_in (l ∷ xs) v ≡ low_in (l ∷ ys) v
same_low l xs ys v same_lows = ap (λ n. cond (l.variable == v) l.low n) same_lows

-- if xs and ys have the same high of v, they still do with the literal l in front of both
same_high : (k : ℕ) (l : Literal) (xs ys : List Literal) (v : ℕ) → high_in k xs v ≡ high_in k ys v →
    high_in k (l ∷ xs) v ≡ high_in k (l ∷ ys) v
same_high k l xs ys v same_highs = ap (λ n. cond (l.variable == v) l.high n) same_highs

-- ---- the literals but those of the whole range

-- a literal of the whole range begins at 0
whole-low : (k : ℕ) (l : Literal) → is_whole k l ≡ true → l.low ≡ 0
whole-low k l whole = eqb-true l.low 0 (and_parts (l.low == 0) (l.high == top k l.variable) whole).0

-- a literal of the whole range ends at the top
whole-high : (k : ℕ) (l : Literal) → is_whole k l ≡ true → l.high ≡ top k l.variable
whole-high k l whole = eqb-true l.high (top k l.variable) (and_parts (l.low == 0) (l.high == top k l.variable) whole).1

-- in a rising cube the literals behind the first allow the first one's variable from 0 on, since they are on others
rest-low : (l : Literal) (ls : List Literal) → IsRising (l ∷ ls) → low_in ls l.variable ≡ 0
rest-low l ls rises =
    low_in-none ls l.variable (λ m member on_l. let above = rising_first l m ls rises member in omega arith)

-- in a rising cube the literals behind the first allow the first one's variable up to its greatest number
rest-high : (k : ℕ) (l : Literal) (ls : List Literal) → IsRising (l ∷ ls) → high_in k ls l.variable ≡ top k l.variable
rest-high k l ls rises =
    high_in-none k ls l.variable (λ m member on_l. let above = rising_first l m ls rises member in omega arith)

-- `k` is the number of faults
module _ (k : ℕ) where
  -- if no literal has the whole range, none is left out
  cube_kept : (cube : List Literal) → list_any (is_whole k) cube ≡ false → shorn k cube ≡ cube
  -- by induction on the list
  cube_kept [] none_whole = refl
  cube_kept (l ∷ ls) none_whole =
      let parts = or_parts (is_whole k l) (list_any (is_whole k) ls) none_whole in
      ap₂ (λ b xs. cond (not b) (l ∷ xs) xs) parts.0 (cube_kept ls parts.1)

  -- columns of which no literal has the whole range stay as they are when whole literals are left out
  pub columns_kept : (columns : List Column) → list_any (λ c. list_any (is_whole k) c.cube) columns ≡ false →
      all_shorn k columns ≡ columns
  -- by induction on the list
  columns_kept [] none_whole = refl
  columns_kept (c ∷ cs) none_whole =
      let parts = or_parts (list_any (is_whole k) c.cube)
      (list_any (λ d. list_any (is_whole k) d.cube) cs) none_whole in
      ap₂ (λ cube rest. record { time = c.time; cube = cube } ∷ rest) (cube_kept c.cube parts.0)
      (columns_kept cs parts.1)

  -- columns without literals of the whole range stay as they are when whole literals are left out
  pub tidy_kept : (columns : List Column) → HaveNoWhole k columns → all_shorn k columns ≡ columns
  tidy_kept columns no_whole = columns_kept columns (list_any_none (λ c. list_any (is_whole k) c.cube) columns
      (All-weaker (λ c. All (λ l. is_whole k l ≡ false) c.cube) (λ c. list_any (is_whole k) c.cube ≡ false)
      (λ c all. list_any_none (is_whole k) c.cube all) columns no_whole))

  -- leaving out a first literal of the whole range changes no low
  left_out-low : (l : Literal) (ls : List Literal) (v : ℕ) → IsRising (l ∷ ls) → is_whole k l ≡ true →
      low_in ls v ≡ low_in (l ∷ ls) v
  left_out-low l ls v rises whole = ⊎_elim
      (λ (same : l.variable ≡ v). subst (λ u. low_in ls u ≡ low_in (l ∷ ls) u) same
      (rest-low l ls rises ∙ sym (whole-low k l whole) ∙ sym (low_in-here l ls l.variable refl)))
      (λ (other : l.variable ≢ v). sym (low_in-later l ls v other))
      (cases_eq l.variable v)

  -- leaving out a first literal of the whole range changes no high
  left_out-high : (l : Literal) (ls : List Literal) (v : ℕ) → IsRising (l ∷ ls) → is_whole k l ≡ true →
      high_in k ls v ≡ high_in k (l ∷ ls) v
  left_out-high l ls v rises whole = ⊎_elim
      (λ (same : l.variable ≡ v). subst (λ u. high_in k ls u ≡ high_in k (l ∷ ls) u) same
      (rest-high k l ls rises ∙ sym (whole-high k l whole) ∙ sym (high_in-here k l ls l.variable refl)))
      (λ (other : l.variable ≢ v). sym (high_in-later k l ls v other))
      (cases_eq l.variable v)

  -- leaving out the literals of the whole range changes no low
  pub shorn-low : (cube : List Literal) → IsRising cube → (v : ℕ) → low_in (shorn k cube) v ≡ low_in cube v
  -- by induction on the cube: the first literal is left out (`left_out-low`) or stays
  shorn-low [] rises v = refl
  shorn-low (l ∷ ls) rises v = go (is_whole k l) refl (shorn-low ls (rising_rest l ls rises) v)
    where
      -- by whether the first literal has the whole range, and so is left out
      go : (b : Bool) → is_whole k l ≡ b → low_in (shorn k ls) v ≡ low_in ls v →
          low_in (cond (not b) (l ∷ shorn k ls) (shorn k ls)) v ≡ low_in (l ∷ ls) v
      go true whole rest_is = rest_is ∙ left_out-low l ls v rises whole
      go false whole rest_is = same_low l (shorn k ls) ls v rest_is

  -- leaving out the literals of the whole range changes no high
  pub shorn-high : (cube : List Literal) → IsRising cube → (v : ℕ) → high_in k (shorn k cube) v ≡ high_in k cube v
  -- by induction on the list
  shorn-high [] rises v = refl
  shorn-high (l ∷ ls) rises v = go (is_whole k l) refl (shorn-high ls (rising_rest l ls rises) v)
    where
      -- by whether the first literal has the whole range, and so is left out
      go : (b : Bool) → is_whole k l ≡ b → high_in k (shorn k ls) v ≡ high_in k ls v →
          high_in k (cond (not b) (l ∷ shorn k ls) (shorn k ls)) v ≡ high_in k (l ∷ ls) v
      go true whole rest_is = rest_is ∙ left_out-high l ls v rises whole
      go false whole rest_is = same_high k l (shorn k ls) ls v rest_is

-- ---- the literals on other variables

-- `v` is the variable whose literals are left out, or whose range is raised
module _ (v : ℕ) where
  -- leaving out the literals on v changes the low of no other variable
  pub without-low : (cube : List Literal) (u : ℕ) → u ≢ v → low_in (without v cube) u ≡ low_in cube u
  -- by induction on the list
  without-low [] u u_other = refl
  without-low (l ∷ ls) u u_other = go (l.variable == v) refl (without-low ls u u_other)
    where
      -- by whether the first literal is on v, and so is left out
      go : (b : Bool) → (l.variable == v) ≡ b → low_in (without v ls) u ≡ low_in ls u →
          low_in (cond (not b) (l ∷ without v ls) (without v ls)) u ≡ low_in (l ∷ ls) u
      go true on_v rest_is = rest_is
          ∙ sym (low_in-later l ls u (λ on_u. u_other (sym on_u ∙ eqb-true l.variable v on_v)))
      go false not_on rest_is = same_low l (without v ls) ls u rest_is

  -- leaving out the literals on v changes the high of no other variable
  pub without-high : (k : ℕ) (cube : List Literal) (u : ℕ) → u ≢ v → high_in k (without v cube) u ≡ high_in k cube u
  -- by induction on the list
  without-high k [] u u_other = refl
  without-high k (l ∷ ls) u u_other = go (l.variable == v) refl (without-high k ls u u_other)
    where
      -- by whether the first literal is on v, and so is left out
      go : (b : Bool) → (l.variable == v) ≡ b → high_in k (without v ls) u ≡ high_in k ls u →
          high_in k (cond (not b) (l ∷ without v ls) (without v ls)) u ≡ high_in k (l ∷ ls) u
      go true on_v rest_is = rest_is
          ∙ sym (high_in-later k l ls u (λ on_u. u_other (sym on_u ∙ eqb-true l.variable v on_v)))
      go false not_on rest_is = same_high k l (without v ls) ls u rest_is

  -- no literal that is left is on the variable left out
  not_there : (cube : List Literal) (l : Literal) → Contains (without v cube) l → l.variable ≢ v
  not_there cube l member = eqb-false l.variable v
      (not-true (l.variable == v) (Contains-filter_parts (λ m. not (m.variable == v)) cube l member).1)

  -- without the literals on v, a cube's low of v is 0
  pub without-low_here : (cube : List Literal) → low_in (without v cube) v ≡ 0
  without-low_here cube = low_in-none (without v cube) v (not_there cube)

  -- without the literals on v, a cube's high of v is the top of v
  pub without-high_here : (k : ℕ) (cube : List Literal) → high_in k (without v cube) v ≡ top k v
  without-high_here k cube = high_in-none k (without v cube) v (not_there cube)

  -- ---- a range raised

  -- given: the new high of v
  module _ (high : ℕ) where
    -- the literal with the new high
    abbrev with_high : Literal → Literal
    with_high l = record { variable = l.variable; low = l.low; high = high }

    -- the literal with the new high, if it is on the variable
    abbrev raise : Literal → Literal
    raise l = cond (l.variable == v) (with_high l) l

    -- raising leaves a literal on its variable
    raise-variable : (l : Literal) → (raise l).variable ≡ l.variable
    raise-variable l = go (l.variable == v)
      where
        -- a raised literal has the same variable, and so does one that stays
        go : (b : Bool) → (cond b (with_high l) l).variable ≡ l.variable
        go true = refl
        go false = refl

    -- raising the high of v changes no low
    pub raised-low : (cube : List Literal) (u : ℕ) → low_in (raised v high cube) u ≡ low_in cube u
    -- by induction on the list
    raised-low [] u = refl
    raised-low (l ∷ ls) u = go (l.variable == v) (raised-low ls u)
      where
        -- a raised literal has the same low, and so does one that stays
        go : (b : Bool) → low_in (raised v high ls) u ≡ low_in ls u →
            low_in (cond b (with_high l) l ∷ raised v high ls) u ≡ low_in (l ∷ ls) u
        go true rest_is = same_low l (raised v high ls) ls u rest_is
        go false rest_is = same_low l (raised v high ls) ls u rest_is

    -- raising the high of v changes the high of no other variable
    pub raised-high : (k : ℕ) (cube : List Literal) (u : ℕ) → u ≢ v →
        high_in k (raised v high cube) u ≡ high_in k cube u
    -- by induction on the list
    raised-high k [] u u_other = refl
    raised-high k (l ∷ ls) u u_other = go (l.variable == v) refl (raised-high k ls u u_other)
      where
        -- by whether the first literal is on v, so that its high is of another variable than u, or stays
        go : (b : Bool) → (l.variable == v) ≡ b → high_in k (raised v high ls) u ≡ high_in k ls u →
            high_in k (cond b (with_high l) l ∷ raised v high ls) u ≡ high_in k (l ∷ ls) u
        go true on_v rest_is =
            let other : l.variable ≢ u = λ on_u. u_other (sym on_u ∙ eqb-true l.variable v on_v) in
            high_in-later k (with_high l) (raised v high ls) u other ∙ rest_is ∙ sym (high_in-later k l ls u other)
        go false not_on rest_is = same_high k l (raised v high ls) ls u rest_is

    -- if some literal ends v's range under its greatest number, the raised cube's high of v is the new one
    pub raised-high_here : (k : ℕ) (cube : List Literal) → high_in k cube v < top k v →
        high_in k (raised v high cube) v ≡ high
    -- by induction on the list
    raised-high_here k [] below_top = absurd (omega arith)
    raised-high_here k (l ∷ ls) below_top = go (l.variable == v) refl (raised-high_here k ls)
      where
        -- by whether the first literal is on v: then its high is the new one, and otherwise the rest decides
        go : (b : Bool) → (l.variable == v) ≡ b → (high_in k ls v < top k v → high_in k (raised v high ls) v ≡ high) →
            high_in k (cond b (with_high l) l ∷ raised v high ls) v ≡ high
        go true on_v from_rest = high_in-here k (with_high l) (raised v high ls) v (eqb-true l.variable v on_v)
        go false not_on from_rest =
            let other = eqb-false l.variable v not_on in
            high_in-later k l (raised v high ls) v other
            ∙ from_rest (subst (λ n. n < top k v) (high_in-later k l ls v other) below_top)

    -- a raised cube's variables rise as before
    pub raised-rising : (cube : List Literal) → IsRising cube → IsRising (raised v high cube)
    raised-rising cube rises = AllPairs-map (λ (l m : Literal). l.variable < m.variable)
        (λ (l m : Literal). l.variable < m.variable) raise cube
        (λ l m less. let l_variable = raise-variable l in let m_variable = raise-variable m in omega arith) rises

    -- what holds of the variables of all literals does so of the raised cube's
    pub raised-all : (P : ℕ → Type 0) (cube : List Literal) → All (λ l. P l.variable) cube →
        All (λ l. P l.variable) (raised v high cube)
    raised-all P cube all = All-map (λ l. P l.variable) raise cube
        (All-weaker (λ l. P l.variable) (λ l. P (raise l).variable)
        (λ l holds. subst P (sym (raise-variable l)) holds) cube all)

    -- if the new high is within the whole range, each literal still is
    pub raised-within : (k : ℕ) (cube : List Literal) → high ≤ top k v → All (λ l. l.high ≤ top k l.variable) cube →
        All (λ l. l.high ≤ top k l.variable) (raised v high cube)
    raised-within k cube high_within all_within = All-map (λ l. l.high ≤ top k l.variable) raise cube
        (All-weaker (λ l. l.high ≤ top k l.variable) (λ l. (raise l).high ≤ top k (raise l).variable)
        (λ l within. go l within (l.variable == v) refl) cube all_within)
      where
        -- a raised literal has the new high, and another one stays
        go : (l : Literal) → l.high ≤ top k l.variable → (b : Bool) → (l.variable == v) ≡ b →
            (cond b (with_high l) l).high ≤ top k (cond b (with_high l) l).variable
        go l within true on_v = subst (λ u. high ≤ top k u) (sym (eqb-true l.variable v on_v)) high_within
        go l within false on_v = within

-- ---- cubes in the one form that their ranges have

-- given: two rising cubes, a and b, with the same ranges, of which a has no literal of the whole range
module _ (k : ℕ) (a b : List Literal) (rise_a : IsRising a) (rise_b : IsRising b) (narrow_a : IsNarrow k a)
    (lows : (v : ℕ) → low_in a v ≡ low_in b v) (highs : (v : ℕ) → high_in k a v ≡ high_in k b v) where
  -- a literal whose range isn't the whole one is in each rising cube that has this range of its variable
  found : (xs : List Literal) (l : Literal) → IsRising xs → low_in xs l.variable ≡ l.low →
      high_in k xs l.variable ≡ l.high → (0 < l.low) ⊎ (l.high < top k l.variable) → Contains xs l
  -- by induction on the cube: without a literal on the variable it would have the whole range
  found [] l rises low_is high_is not_whole =
      absurd (⊎_elim (λ (above : 0 < l.low). let wrong : ⊥ = omega arith in wrong)
      (λ (below : l.high < top k l.variable). let wrong : ⊥ = omega arith in wrong) not_whole)
  found (m ∷ ms) l rises low_is high_is not_whole = ⊎_elim
      (λ (same : m.variable ≡ l.variable).
      let same_low : m.low ≡ l.low = sym (low_in-here m ms l.variable same) ∙ low_is in
      let same_high : m.high ≡ l.high = sym (high_in-here k m ms l.variable same) ∙ high_is in
      subst (λ z. Contains (m ∷ ms) z) (same_literal m l same same_low same_high) (Contains-first m ms))
      (λ (other : m.variable ≢ l.variable). Contains-rest m ms l (found ms l (rising_rest m ms rises)
      (sym (low_in-later m ms l.variable other) ∙ low_is)
      (sym (high_in-later k m ms l.variable other) ∙ high_is) not_whole))
      (cases_eq m.variable l.variable)

  -- each literal of a is in b
  pub contained : (l : Literal) → Contains a l → Contains b l
  contained l member =
      let range = range_of_literal k a l rise_a member in
      let narrow_l = All-contains (λ m. (is_whole k m ≡ false) × (m.high ≤ top k m.variable)) a l narrow_a member in
      found b l rise_b (sym (lows l.variable) ∙ range.0) (sym (highs l.variable) ∙ range.1)
      (narrow k l narrow_l.0 narrow_l.1)

-- two rising cubes without whole literals and with the same ranges are the same
pub same_cube : (k : ℕ) (a b : List Literal) → IsRising a → IsRising b → IsNarrow k a → IsNarrow k b →
    ((v : ℕ) → low_in a v ≡ low_in b v) → ((v : ℕ) → high_in k a v ≡ high_in k b v) → a ≡ b
same_cube k a b ra rb na nb ls hs =
    same_sorted (λ l m. l.variable < m.variable) (λ l m l_less m_less. omega arith) a b ra rb
    (contained k a b ra rb na ls hs)
    (contained k b a rb ra nb (λ v. sym (ls v)) (λ v. sym (hs v)))

-- a fact of each element of the list, as `All` says it
pub All-from_each : {X : Type 0} {P : X → Type 0} (xs : List X) → ((x : X) → Contains xs x → P x) → All P xs
All-from_each xs each = λ k d inside. each (get_or xs k d) (Contains-get_or xs k d inside)

-- ---- the literals before one of a rising cube have lower variables

-- in a rising cube the literals before a place are on lower variables than the one there
before_next : (cube : List Literal) (i : ℕ) (d : Literal) → IsRising cube → i < length cube →
    All (λ l. l.variable < (get_or cube i d).variable) (take i cube)
before_next cube i d rises inside = λ k e before.
    let length_is = length-take-le i cube (omega arith) in
    subst (λ (x : Literal). x.variable < (get_or cube i d).variable)
    (get_or_default cube k d e (omega arith) ∙ sym (get_or-take i cube k e (omega arith)))
    (rises k i d (omega arith) inside)

-- in a rising cube those literals before place i that aren't of the whole range are on lower variables than the one
-- there
pub shorn_before : (k : ℕ) (cube : List Literal) (i : ℕ) (d : Literal) (front : List Literal) → IsRising cube →
    i < length cube →
    front ≡ shorn k (take i cube) →
    All (λ l. l.variable < (get_or cube i d).variable) front
shorn_before k cube i d front rises inside front_is =
    All-same (λ (l : Literal). l.variable < (get_or cube i d).variable) front (shorn k (take i cube)) front_is
    (All-filter (λ l. not (is_whole k l)) (λ (l : Literal). l.variable < (get_or cube i d).variable) (take i cube)
    (before_next cube i d rises inside))

-- in a rising cube the literals before place i, with the range of one variable raised, are on lower variables than
-- the one there
pub raised_before : (v high : ℕ) (cube : List Literal) (i : ℕ) (d : Literal) (front : List Literal) → IsRising cube →
    i < length cube →
    front ≡ raised v high (take i cube) →
    All (λ l. l.variable < (get_or cube i d).variable) front
raised_before v high cube i d front rises inside front_is =
    All-same (λ (l : Literal). l.variable < (get_or cube i d).variable) front (raised v high (take i cube)) front_is
    (raised-all v high (λ u. u < (get_or cube i d).variable) (take i cube) (before_next cube i d rises inside))
