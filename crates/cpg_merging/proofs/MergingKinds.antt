-- Columns that touch are of one kind and ask different amounts, so both are candidates.
use Rattle.std.proofs.Common.{ℕ, ◌+◌, ◌%◌, ◌<◌, ◌≤◌, ◌≡◌, ◌≢◌, Bool, true, false, List, length, get_or, filter, map}
use Rattle.std.proofs.Common.{sum_by, Contains, arith, refl, sym, ap, ◌∙◌, subst, inl, inr, true≢false}
use Rattle.std.proofs.lemmas.List.Elements.{All-contains}
use Rattle.cpg_base.specs.Graph.{Graph, process_count, IsVariable}
use Rattle.cpg_base.proofs.Sums.{sum_by_constant}
use Rattle.cpg_base.proofs.Lists.{Contains-filter, Contains-map, Contains-nil}
use Rattle.std.proofs.lemmas.List.{nil_from_length}
use Rattle.cpg_cube.specs.declared.literal.Literal.{Literal}
use Rattle.cpg_cube.specs.Cube.{low_in, high_in}
use Rattle.cpg_cube.specs.declared.column.Column.{Column}
use Rattle.cpg_merging.specs.Demands.{low_of}
use Rattle.cpg_merging.specs.Kinds.{AreTold, HoldCandidates, is_candidate, kind_of, variable_of}
use Rattle.cpg_merging.specs.Merging.{without, TouchAt, IsSettledOn}
use Rattle.cpg_merging.specs.Totals.{AreMarked, AreMarkedBy, IsMarked, mixed, place_in, total_of}
use Rattle.cpg_merging.proofs.MergingDemands.{top_small}
use Rattle.cpg_merging.proofs.MergingLists.{AreGood}
use Rattle.cpg_merging.proofs.MergingPairs.{IsGood, low-le-high, high_in-top}
use Rattle.cpg_merging.proofs.MergingSettled.{same_without}
use Rattle.cpg_merging.proofs.MergingTotals.{of_range, spoken, sum_parts, touch_partner}

-- ---- which columns are chosen

-- if two columns of one kind ask differently, both are candidates: a place stores one amount, so a difference is noted
-- there
pub both_chosen : (amounts : List ℕ) (differing : List Bool) (columns : List Column) → length differing ≡ length amounts →
    AreTold amounts differing (map kind_of columns) →
    HoldCandidates columns (filter (is_candidate differing) columns)
both_chosen amounts differing columns long tell c d there other same apart = (
  Contains-filter (is_candidate differing) columns c (chosen c d there other same apart) there,
  Contains-filter (is_candidate differing) columns d
      (chosen d c other there (sym same) (λ equal. apart (sym equal))) other,
)
  where
    -- the place of a column's kind in the table
    at : Column → ℕ
    at x = place_in (length amounts) (kind_of x).number

    -- columns of one kind that ask differently are both candidates
    chosen : (x y : Column) → Contains columns x → Contains columns y → (kind_of x).number ≡ (kind_of y).number →
        (kind_of x).asked ≢ (kind_of y).asked →
        is_candidate differing x ≡ true
    chosen x y x_in y_in one_kind differ = go (is_candidate differing x) refl
      where
        -- by whether the column is a candidate: if it weren't, the place of its kind would be unmarked
        go : (b : Bool) → is_candidate differing x ≡ b → b ≡ true
        go true on = refl
        go false off =
            let off_x : ¬ IsMarked differing (at x) = λ on. true≢false (sym on
            ∙ ap (λ (m : ℕ). get_or differing (place_in m (kind_of x).number) false) (sym long) ∙ off) in
            let places : at x ≡ at y = ap (place_in (length amounts)) one_kind in
            absurd (differ (sym (tell (kind_of x) (Contains-map kind_of columns x x_in) off_x)
            ∙ ap (λ (p : ℕ). get_or amounts p 0) places ∙
            tell (kind_of y) (Contains-map kind_of columns y y_in)
            (subst (λ (p : ℕ). ¬ IsMarked differing p) places off_x)))

-- ---- columns that touch

-- 1 for each literal, so that the sum over literals counts them
abbrev one_of : Literal → ℕ
one_of l = 1

-- given: a variable of the graph
module _ (g : Graph) (few : process_count g ≤ 128) (faults : g.faults ≤ 8) (v : ℕ) (known : IsVariable g v) where
  -- if good columns c and d of one time touch at v, they are of one kind and ask differently
  touch_kinds : (c d : Column) → IsGood g c.cube → IsGood g d.cube → c.time ≡ d.time →
      TouchAt g.faults v c.cube d.cube →
      ((kind_of c).number ≡ (kind_of d).number) ×
      ((kind_of c).asked ≢ (kind_of d).asked)
  touch_kinds c d good_c good_d same touch =
      -- both have a literal on v and the same literals on other variables, so the sums over literals, over variables
      -- and of lows differ by that literal alone: the numbers are equal, and the lows differ
      let k = g.faults in
      let next : high_in k c.cube v + 1 ≡ low_in d.cube v = touch.next in
      let low_c = low-le-high k c.cube good_c.met v in
      let low_d = low-le-high k d.cube good_d.met v in
      let high_d = high_in-top k d.cube (λ i e inside. (good_d.narrow i e inside).1) v in
      -- each cube has a literal on the variable
      let lc : Contains c.cube (of_range k c.cube v) = spoken k c.cube v (inr (omega (arith, next, low_d, high_d))) in
      let ld : Contains d.cube (of_range k d.cube v) = spoken k d.cube v (inl (omega (arith, next))) in
      -- so a cube's sums of lows, of literals and of variables are those of its other literals, and what this one adds
      let sum_c : sum_by low_of c.cube ≡ sum_by low_of (without v c.cube) + low_in c.cube v =
      sum_parts low_of v c.cube good_c.cube.rising (of_range k c.cube v) lc refl in
      let sum_d : sum_by low_of d.cube ≡ sum_by low_of (without v d.cube) + low_in d.cube v =
      sum_parts low_of v d.cube good_d.cube.rising (of_range k d.cube v) ld refl in
      let count_c : sum_by one_of c.cube ≡ sum_by one_of (without v c.cube) + 1 =
      sum_parts one_of v c.cube good_c.cube.rising (of_range k c.cube v) lc refl in
      let variables_c : sum_by variable_of c.cube ≡ sum_by variable_of (without v c.cube) + v =
      sum_parts variable_of v c.cube good_c.cube.rising (of_range k c.cube v) lc refl in
      let variables_d : sum_by variable_of d.cube ≡ sum_by variable_of (without v d.cube) + v =
      sum_parts variable_of v d.cube good_d.cube.rising (of_range k d.cube v) ld refl in
      let count_d : sum_by one_of d.cube ≡ sum_by one_of (without v d.cube) + 1 =
      sum_parts one_of v d.cube good_d.cube.rising (of_range k d.cube v) ld refl in
      -- the other literals are the same, so the kinds are equal, and the lows differ
      let others = same_without g few v known c.cube d.cube good_c good_d touch.others in (
        numbers c.time d.time (length c.cube) (length d.cube) (sum_by variable_of c.cube)
            (sum_by variable_of d.cube) same
            (omega (
              arith,
              sum_by_constant 1 c.cube,
              sum_by_constant 1 d.cube,
              count_c,
              count_d,
              ap (sum_by one_of) others,
            ))
            (variables_c ∙ ap (λ (ls : List Literal). sum_by variable_of ls + v) others ∙ sym variables_d),
        apart (sum_by low_of c.cube) (sum_by low_of d.cube) (sum_by low_of (without v d.cube)) (low_in c.cube v)
            (low_in d.cube v)
            (sum_c ∙ ap (λ (ls : List Literal). sum_by low_of ls + low_in c.cube v) others) sum_d
            (omega (arith, low_c, next)) (omega (arith, low_d, high_d, top_small g few faults v known)),
      )
    where
      -- equal times, lengths and sums of variables give equal numbers of the kinds
      numbers : (t u a b s r : ℕ) → t ≡ u → a ≡ b → s ≡ r →
          mixed (mixed (mixed 0 t) a) (s % 256) ≡ mixed (mixed (mixed 0 u) b) (r % 256)
      numbers t u a b s r same_time same_length same_sum =
          ap (λ (x : ℕ). mixed (mixed (mixed 0 x) a) (s % 256)) same_time
          ∙ ap (λ (x : ℕ). mixed (mixed (mixed 0 u) x) (s % 256)) same_length
          ∙ ap (λ (x : ℕ). mixed (mixed (mixed 0 u) b) (x % 256)) same_sum

      -- sums that differ by less than 256 differ modulo 256
      apart : (a b w low high : ℕ) → a ≡ w + low → b ≡ w + high → low < high → high ≤ 8 → a % 256 ≢ b % 256
      apart a b w low high a_is b_is less small same = omega (arith, a_is, b_is, less, small, same)

  -- given: two columns, c and d, of one time that touch at v
  module _ (xs : List Column) (good : AreGood g xs) (c d : Column) (c_in : Contains xs c) (d_in : Contains xs d)
      (same : c.time ≡ d.time) (touch : TouchAt g.faults v c.cube d.cube) where
    -- the cube of each column is good
    good_in : (x : Column) → Contains xs x → IsGood g x.cube
    good_in x member = All-contains (λ (y : Column). IsGood g y.cube) xs x good member

    -- two columns that touch are both candidates
    both_held : (ys : List Column) → HoldCandidates xs ys → Contains ys c × Contains ys d
    both_held ys hold = let kinds = touch_kinds c d (good_in c c_in) (good_in d d_in) same touch in
        hold c d c_in d_in kinds.0 kinds.1

    -- if v isn't marked by the candidates' marks, that is a contradiction: the totals of c and d would be partners
    touch_held : (ys : List Column) → HoldCandidates xs ys → (marks : List Bool) →
        AreMarkedBy (map total_of ys) marks ys → ¬ IsMarked marks v → ⊥
    touch_held ys hold marks all off =
        let both = both_held ys hold in
        touch_partner g few v known c d (good_in c c_in) (good_in d d_in) same touch (map total_of ys)
        (Contains-map total_of ys c both.0)
        (λ l member on_v. all d l both.1 member (λ on. off (subst (IsMarked marks) on_v on)))

  -- if there are no candidates, no two columns of one time touch at v
  pub settled_none : (xs : List Column) → AreGood g xs → {X : Type 0} (f : X → Column) (ys : List X) →
      HoldCandidates xs (map f ys) → length ys ≡ 0 →
      IsSettledOn g.faults v xs
  settled_none xs good f ys hold none c d c_in d_in one_time touch = Contains-nil c
      (subst (λ zs. Contains (map f zs) c) (nil_from_length ys none)
      (both_held xs good c d c_in d_in one_time touch (map f ys) hold).0)

-- marks of the candidates are marks of all columns
pub marked_by : (g : Graph) → process_count g ≤ 128 → g.faults ≤ 8 → (xs ys : List Column) → AreGood g xs →
    HoldCandidates xs ys → (marks : List Bool) →
    AreMarkedBy (map total_of ys) marks ys →
    AreMarked g marks xs
marked_by g few faults xs ys good hold marks all v known off c d c_in d_in one_time touch =
    touch_held g few faults v known xs good c d c_in d_in one_time touch ys hold marks all off
