-- If no two demands of one time differ, no two columns touch: two that touch ask different amounts. Sorted demands
-- need only be compared with their neighbours.
use Rattle.std.proofs.Common.{ℕ, zero, suc, ◌+◌, ◌-◌, ◌*◌, ◌/◌, ◌%◌, ◌^◌, ◌<◌, ◌≤◌, ◌≡◌, Bool, true, false, cond}
use Rattle.std.proofs.Common.{nat_lt, List, length, get_or, map, sum_by, Contains, IsPermutation, arith, refl, sym}
use Rattle.std.proofs.Common.{ap, ◌∙◌, subst, inl, inr}
use Rattle.std.specs.Bool.{OnFalse}
use Rattle.std.proofs.lemmas.Bool.{cases_lt}
use Rattle.std.proofs.lemmas.List.{get_or_default}
use Rattle.std.proofs.lemmas.List.Sorted.{Contains-permutation}
use Rattle.std.proofs.lemmas.List.Elements.{All-contains}
use Rattle.cpg_base.specs.Graph.{Graph, process_count, IsVariable}
use Rattle.cpg_base.specs.Variable.{top}
use Rattle.cpg_base.proofs.Lists.{Contains-map}
use Rattle.cpg_cube.specs.Cube.{low_in, high_in}
use Rattle.cpg_cube.specs.declared.column.Column.{Column}
use Rattle.cpg_merging.specs.Demands.{low_of, demand_of, AgreeByTime}
use Rattle.cpg_merging.specs.Merging.{without, TouchAt, IsSettledOn}
use Rattle.cpg_merging.specs.Totals.{DoNotFall}
use Rattle.cpg_merging.proofs.MergingLists.{AreGood}
use Rattle.cpg_merging.proofs.MergingPairs.{IsGood, low-le-high, high_in-top}
use Rattle.cpg_merging.proofs.MergingSettled.{same_without}
use Rattle.cpg_merging.proofs.MergingTotals.{of_range, spoken, sum_parts}

-- ---- sorted numbers of which no two neighbours differ within a time

-- any two neighbours below n that have one time, which is the number divided by 256, are equal
abbrev pub NeighboursAgree : List ℕ → ℕ → Type 0
NeighboursAgree ns n =
    (i : ℕ) → i + 1 < n → get_or ns i 0 / 256 ≡ get_or ns (i + 1) 0 / 256 → get_or ns i 0 ≡ get_or ns (i + 1) 0

-- if all neighbours of one time are equal, so are any two numbers of one time, `d` places apart
agree_on : (ns : List ℕ) → DoNotFall ns → NeighboursAgree ns (length ns) → (d i : ℕ) → i + d < length ns →
    get_or ns i 0 / 256 ≡ get_or ns (i + d) 0 / 256 →
    get_or ns i 0 ≡ get_or ns (i + d) 0
-- by induction on the distance: as the numbers don't fall, the next one has the same time
agree_on ns up near zero i within same = let same_place : i ≡ i + zero = omega arith in
    ap (λ (x : ℕ). get_or ns x 0) same_place
agree_on ns up near (suc d) i within same =
    let first : get_or ns i 0 ≤ get_or ns (i + 1) 0 = up i (i + 1) (omega arith) (omega (arith, within)) in
    let last : get_or ns (i + 1) 0 ≤ get_or ns (i + suc d) 0 = up (i + 1) (i + suc d) (omega arith) within in
    let next : get_or ns i 0 ≡ get_or ns (i + 1) 0 =
    near i (omega (arith, within)) (omega (arith, first, last, same)) in
    let at : i + 1 + d ≡ i + suc d = omega arith in
    let later : get_or ns (i + 1) 0 / 256 ≡ get_or ns (i + suc d) 0 / 256 = omega (arith, first, last, same) in
    next ∙ agree_on ns up near d (i + 1) (omega (arith, within)) (later ∙ ap (λ (x : ℕ). get_or ns x 0 / 256) (sym at))
    ∙ ap (λ (x : ℕ). get_or ns x 0) at

-- if all neighbours of one time are equal, all numbers of one time are
pub all_agree : (ns : List ℕ) → DoNotFall ns → NeighboursAgree ns (length ns) → AgreeByTime ns
all_agree ns up near m n m_in n_in same =
    let m_is : get_or ns m_in.0 0 ≡ m = sym (get_or_default ns m_in.0 m 0 m_in.1) ∙ m_in.2 in
    let n_is : get_or ns n_in.0 0 ≡ n = sym (get_or_default ns n_in.0 n 0 n_in.1) ∙ n_in.2 in
    elim (cases_lt m_in.0 n_in.0) [
      | inl less ↦ sym m_is
          ∙ at m_in.0 n_in.0 (omega (arith, less)) n_in.1
          (ap (λ (x : ℕ). x / 256) m_is ∙ same ∙ sym (ap (λ (x : ℕ). x / 256) n_is)) ∙ n_is
      | inr not_less ↦ sym m_is
          ∙ sym (at n_in.0 m_in.0 not_less m_in.1
          (ap (λ (x : ℕ). x / 256) n_is ∙ sym same ∙ sym (ap (λ (x : ℕ). x / 256) m_is))) ∙ n_is
    ]
  where
    -- two numbers of the list that are equal divided by 256 are equal, the one at the lesser place given first
    at : (i j : ℕ) → i ≤ j → j < length ns → get_or ns i 0 / 256 ≡ get_or ns j 0 / 256 → get_or ns i 0 ≡ get_or ns j 0
    at i j not_above within one_time =
        let is : i + (j - i) ≡ j = omega (arith, not_above) in
        subst (λ (x : ℕ). get_or ns i 0 ≡ get_or ns x 0) is
        (agree_on ns up near (j - i) i (omega (arith, not_above, within))
        (one_time ∙ ap (λ (x : ℕ). get_or ns x 0 / 256) (sym is)))

-- ---- columns that touch

-- demands of one time that are equal ask the same
same_asked : (t a b : ℕ) → a < 256 → b < 256 → (t * 256 % 2 ^ 64 + a) % 2 ^ 64 ≡ (t * 256 % 2 ^ 64 + b) % 2 ^ 64 → a ≡ b
same_asked t a b a_byte b_byte same = omega (arith, a_byte, b_byte, same)

-- demands of one time have the same time, whatever they ask
same_time : (t a b : ℕ) → a < 256 → b < 256 →
    (t * 256 % 2 ^ 64 + a) % 2 ^ 64 / 256 ≡ (t * 256 % 2 ^ 64 + b) % 2 ^ 64 / 256
same_time t a b a_byte b_byte = omega (arith, a_byte, b_byte)

-- given: a variable of the graph
module _ (g : Graph) (few : process_count g ≤ 128) (faults : g.faults ≤ 8) (v : ℕ) (known : IsVariable g v) where
  -- the greatest number of a variable is at most 8: k, or 1 for a value
  pub top_small : top g.faults v ≤ 8
  top_small = go (nat_lt v 128)
    where
      -- by whether the variable is a process, with k as its greatest number, or a value
      go : (b : Bool) → cond b g.faults 1 ≤ 8
      go true = faults
      go false = omega arith

  -- if the demands of two columns of one time that touch were equal whenever their times are, there would be a
  -- contradiction
  touch_agree : (c d : Column) → IsGood g c.cube → IsGood g d.cube → c.time ≡ d.time →
      TouchAt g.faults v c.cube d.cube → (demand_of c / 256 ≡ demand_of d / 256 → demand_of c ≡ demand_of d) → ⊥
  -- both have a literal on v and the same others, so what they ask differs by their two lows of v; these differ by at
  -- most 8
  touch_agree c d good_c good_d same touch agree =
      let k = g.faults in
      let next : high_in k c.cube v + 1 ≡ low_in d.cube v = touch.next in
      let low_c = low-le-high k c.cube good_c.met v in
      let low_d = low-le-high k d.cube good_d.met v in
      let high_d = high_in-top k d.cube (λ i e inside. (good_d.narrow i e inside).1) v in
      let lc : Contains c.cube (of_range k c.cube v) = spoken k c.cube v (inr (omega (arith, next, low_d, high_d))) in
      let ld : Contains d.cube (of_range k d.cube v) = spoken k d.cube v (inl (omega (arith, next))) in
      let sum_c : sum_by low_of c.cube ≡ sum_by low_of (without v c.cube) + low_in c.cube v =
      sum_parts low_of v c.cube good_c.cube.rising (of_range k c.cube v) lc refl in
      let sum_d : sum_by low_of d.cube ≡ sum_by low_of (without v d.cube) + low_in d.cube v =
      sum_parts low_of v d.cube good_d.cube.rising (of_range k d.cube v) ld refl in
      let others = ap (sum_by low_of) (same_without g few v known c.cube d.cube good_c good_d touch.others) in
      apart c.time d.time (sum_by low_of c.cube) (sum_by low_of d.cube) (sum_by low_of (without v d.cube))
      (low_in c.cube v) (low_in d.cube v) same
      (sum_c ∙ ap (λ (w : ℕ). w + low_in c.cube v) others) sum_d (omega (arith, low_c, next))
      (omega (arith, low_d, high_d, top_small)) agree
    where
      -- two demands of one time that differ in a few lows are different numbers of the same time
      apart : (t u a b w low high : ℕ) → t ≡ u → a ≡ w + low → b ≡ w + high → low < high → high ≤ 8
          → ((t * 256 % 2 ^ 64 + a % 256) % 2 ^ 64 / 256 ≡ (u * 256 % 2 ^ 64 + b % 256) % 2 ^ 64 / 256 →
          (t * 256 % 2 ^ 64 + a % 256) % 2 ^ 64 ≡ (u * 256 % 2 ^ 64 + b % 256) % 2 ^ 64) → ⊥
      apart t u a b w low high one_time a_is b_is less small agree =
          let asked = same_asked t (a % 256) (b % 256) (omega arith) (omega arith)
          (agree (same_time t (a % 256) (b % 256) (omega arith) (omega arith)
          ∙ ap (λ (x : ℕ). (x * 256 % 2 ^ 64 + b % 256) % 2 ^ 64 / 256) one_time) ∙
          ap (λ (x : ℕ). (x * 256 % 2 ^ 64 + b % 256) % 2 ^ 64) (sym one_time)) in
          omega (arith, asked, a_is, b_is, less, small)

  -- if no two demands of one time differ, no two columns of one time touch at v
  pub settled_by_demands : (xs : List Column) → AreGood g xs → AgreeByTime (map demand_of xs) →
      IsSettledOn g.faults v xs
  settled_by_demands xs good agree c d c_in d_in one_time touch =
      touch_agree c d (All-contains (λ (x : Column). IsGood g x.cube) xs c good c_in)
      (All-contains (λ (x : Column). IsGood g x.cube) xs d good d_in) one_time touch
      (agree (demand_of c) (demand_of d) (Contains-map demand_of xs c c_in) (Contains-map demand_of xs d d_in))

-- whether the demands of one time are equal doesn't depend on their order
pub agree_sorted : (ns sorted : List ℕ) → IsPermutation ns sorted → AgreeByTime sorted → AgreeByTime ns
agree_sorted ns sorted permuted agree m n m_in n_in same =
    agree m n (Contains-permutation ns sorted m permuted m_in) (Contains-permutation ns sorted n permuted n_in) same

-- if P gives Q, and P holds if b is false, Q holds if b is false
pub off_weaker : {P Q : Type 0} (b : Bool) → (P → Q) → OnFalse b P → OnFalse b Q
off_weaker true f holds = holds
off_weaker false f holds = f holds
