-- Columns that may be merged have a merge: they are sorted and joined, variable by variable, until none is joined, and
-- then put in the order of their least scenarios.
use Rattle.std.proofs.Common.{◌≡◌, ◌≢◌, ◌∙◌, ℕ, zero, suc, ◌+◌, ◌<◌, ◌≤◌, ◌⊎◌, Bool, true, false, List, length, get_or}
use Rattle.std.proofs.Common.{AllPairs, IsPermutation, Ordering, Less, Equal, Greater}
use Rattle.std.proofs.Common.{arith, refl, sym, ap, subst, inl, inr}
use Rattle.std.specs.Prelude.{not}
use Rattle.std.specs.Ordering.{is_lt, ordering_reverse}
use Rattle.std.specs.List.Sorted.{IsSortedBy}
use Rattle.std.proofs.lemmas.Bool.{cases_Bool, cases_eq, both_ways}
use Rattle.cpg_base.specs.Graph.{Graph, process_count, condition_count, IsVariable}
use Rattle.cpg_base.specs.Numbers.{numbers_below, is_below}
use Rattle.cpg_base.proofs.Below.{below_one_way, not_below_transitive}
use Rattle.cpg_base.proofs.Sorted.{sorted, permutation_sorted, rises_sorted}
use Rattle.cpg_cube.specs.declared.column.Column.{Column}
use Rattle.cpg_cube.specs.Cube.{low_in, matches}
use Rattle.cpg_cube.specs.Keys.{lows_along, AreByLows}
use Rattle.cpg_merging.specs.Merged.{AreMergeable, IsMergeOf}
use Rattle.cpg_merging.specs.Merging.{column_cmp, walked_over, all_shorn, IsShorn, IsBetween, IsPassed, AreSettled}
use Rattle.cpg_merging.proofs.MergingEnds.{merge_of}
use Rattle.cpg_merging.proofs.MergingLists.{joins_through}
use Rattle.cpg_merging.proofs.MergingOrder.{column_total}
use Rattle.cpg_merging.proofs.MergingSettled.{pairs_apart}
use Rattle.cpg_merging.proofs.MergingSteps.{passed_on, passed_none, passed_through, settled_same, fewer_else}
use Rattle.cpg_merging.proofs.MergingSteps.{shorn_columns}

-- ---- a sort by a test whether one element is after another

-- given: a test whether x has to go behind y, which is never true both ways, and, where it is false, is so along a
-- chain
module _ {X : Type 0} (is_after : X → X → Bool)
    (one_way : (x y : X) → is_after x y ≡ true → is_after y x ≡ false)
    (chain : (x y z : X) → is_after x y ≡ false → is_after y z ≡ false → is_after x z ≡ false) where
  -- x needn't go behind y
  abbrev keeps : X → X → Bool
  keeps x y = not (is_after x y)

  -- a test whose opposite is true is false
  not_false : (b : Bool) → not b ≡ true → b ≡ false
  not_false false is_not = refl
  not_false true is_not = sym is_not

  -- a test that is false has a true opposite
  not_true : (b : Bool) → b ≡ false → not b ≡ true
  not_true b is_false = ap not is_false

  -- the elements, sorted so that none has to go behind a later one
  abbrev pub in_order : List X → List X
  in_order xs = sorted keeps xs

  -- sorting keeps the elements
  pub permutation_in_order : (xs : List X) → IsPermutation xs (in_order xs)
  permutation_in_order xs = permutation_sorted keeps xs

  -- in the sorted list no element has to go behind a later one; the elements differ
  pub rises_in_order : (xs : List X) → AllPairs ◌≢◌ xs → AllPairs (λ x y. is_after x y ≡ false) (in_order xs)
  -- the order between elements is one-way and a chain, as the sort asks
  rises_in_order xs apart i j no_element i_below j_below =
      not_false (is_after (get_or (in_order xs) i no_element) (get_or (in_order xs) j no_element))
      (rises_sorted keeps (λ (x : X). Unit {0})
      (λ x y x_in y_in differ. elim (cases_Bool (is_after x y)) [
        | inl is_true ↦ inr (not_true (is_after y x) (one_way x y is_true))
        | inr is_false ↦ inl (not_true (is_after x y) is_false)
      ])
      (λ x y z x_in y_in z_in x_not_after y_not_after.
      not_true (is_after x z) (chain x y z (not_false (is_after x y) x_not_after)
      (not_false (is_after y z) y_not_after)))
      xs (λ k no_element below. tt) apart i j no_element i_below j_below)

-- ---- columns

-- given: a variable v
module _ (v : ℕ) where
  -- whether a column is after another at a variable
  abbrev column_after : Column → Column → Bool
  column_after c d = is_lt (column_cmp v d c)

  -- a comparison that is less isn't less the other way round
  lt_one_way : (o : Ordering) → is_lt o ≡ true → is_lt (ordering_reverse o) ≡ false
  lt_one_way Less less = refl
  lt_one_way Equal less = refl
  lt_one_way Greater less = sym less

  -- a column that is after another at the variable isn't before it, too
  column_one_way : (c d : Column) → column_after c d ≡ true → column_after d c ≡ false
  column_one_way c d after = ap is_lt ((column_total v).antisymm c d) ∙ lt_one_way (column_cmp v d c) after

  -- the test is false along a chain: if c isn't after d, nor d after e, then c isn't after e
  column_chain : (c d e : Column) → column_after c d ≡ false → column_after d e ≡ false → column_after c e ≡ false
  column_chain c d e not_after_d not_after_e = go (column_cmp v e c) refl
    where
      -- not less: it would be less than the middle one too, or equal to it
      not_less : column_cmp v e c ≡ Less → (o : Ordering) → column_cmp v e d ≡ o → ⊥
      not_less is_less Less to_d = both_ways (is_lt (column_cmp v e d)) not_after_e (ap is_lt to_d)
      not_less is_less Equal to_d =
          both_ways (is_lt (column_cmp v d c)) not_after_d
          (ap is_lt (sym ((column_total v).congr e d c to_d) ∙ is_less))
      not_less is_less Greater to_d =
          let back : column_cmp v d e ≡ Less = (column_total v).antisymm d e ∙ ap ordering_reverse to_d in
          both_ways (is_lt (column_cmp v d c)) not_after_d (ap is_lt ((column_total v).trans d e c back is_less))

      -- so the first isn't after the last, however they compare
      go : (o : Ordering) → column_cmp v e c ≡ o → is_lt o ≡ false
      go Equal compared = refl
      go Greater compared = refl
      go Less compared = absurd (not_less compared (column_cmp v e d) refl)

-- given: a graph of at most 128 processes
module _ (g : Graph) (few : process_count g ≤ 128) where
  -- no two columns are the same, since each matches a scenario and no two match one
  columns_differ : (xs : List Column) → IsShorn g xs → AllPairs ◌≢◌ xs
  columns_differ xs shorn i j d i_below j_below same =
      let shared = shorn.good.met i d (omega (arith, i_below, j_below)) in
      pairs_apart g xs shorn.good.apart i j d i_below j_below shared.0 shared.1 shared.2
      (subst (λ (c : Column). matches c.cube shared.0 ≡ true) same shared.2)

  -- ---- joined at one variable, then at some, then at all

  -- columns may be sorted and joined at one variable
  pass_on : (v : ℕ) → IsVariable g v → (xs : List Column) → IsShorn g xs →
      (ys : List Column) × IsPassed g (λ u. u ≡ v) xs ys
  -- sorted columns that are walked over are a step at the variable (`passed_on`)
  pass_on v known xs shorn =
      let ys = in_order (column_after v) (column_one_way v) (column_chain v) xs in
      let up : AllPairs (λ c d. column_after v c d ≡ false) ys =
      rises_in_order (column_after v) (column_one_way v) (column_chain v) xs (columns_differ xs shorn) in
      let is : IsSortedBy (λ c d. is_lt (column_cmp v c d)) ys =
      λ i d i_below next_below. up i (i + 1) d (omega arith) next_below in (
        walked_over g.faults v ys,
        passed_on g few v known xs ys shorn
            (permutation_in_order (column_after v) (column_one_way v) (column_chain v) xs) is,
      )

  -- columns may be joined at n variables from `low` on, one after another
  pass_over : (low n : ℕ) → ((v : ℕ) → low ≤ v → v < low + n → IsVariable g v) → (xs : List Column) →
      IsShorn g xs →
      (ys : List Column) × IsPassed g (IsBetween low (low + n)) xs ys
  -- by induction on n: the last variable comes after the others
  pass_over low zero known xs shorn =
      (xs, passed_none g (IsBetween low (low + 0)) (λ v none. omega (arith, none.0, none.1)) xs shorn)
  pass_over low (suc n) known xs shorn =
      let first_n = pass_over low n (λ v l k. known v l (omega (arith, k))) xs shorn in
      let all_n = pass_on (low + n) (known (low + n) (omega arith) (omega arith)) first_n.0 first_n.1.good in (
        all_n.0,
        passed_through g (IsBetween low (low + n)) (λ u. u ≡ low + n) (IsBetween low (low + suc n))
            (λ v one. at_end v one.0 one.1) xs first_n.0 all_n.0 first_n.1 all_n.1,
      )
    where
      -- a variable among n + 1 is among the first n, or is the last
      at_end : (v : ℕ) → low ≤ v → v < low + suc n → IsBetween low (low + n) v ⊎ (v ≡ low + n)
      at_end v from below = elim (cases_eq v (low + n)) [
        | inl is_last ↦ inr is_last
        | inr other ↦ inl (from, omega (arith, below, other))
      ]

  -- columns may be joined at each variable of the graph: at all fault counts, then at all values
  pass_all : (xs : List Column) → IsShorn g xs → (ys : List Column) × IsPassed g (IsVariable g) xs ys
  pass_all xs shorn =
      let by_counts = pass_over 0 (process_count g) (λ v l k. inl (omega (arith, k))) xs shorn in
      let by_values = pass_over 128 (condition_count g) (λ v l k. inr (l, omega (arith, k))) by_counts.0
      by_counts.1.good in (
        by_values.0,
        passed_through g (IsBetween 0 (0 + process_count g)) (IsBetween 128 (128 + condition_count g))
            (IsVariable g) sides xs by_counts.0 by_values.0 by_counts.1 by_values.1,
      )
    where
      -- a variable is a count or a value
      sides : (v : ℕ) → IsVariable g v → IsBetween 0 (0 + process_count g) v ⊎ IsBetween 128 (128 + condition_count g) v
      sides v (inl l) = inl (omega arith, omega (arith, l))
      sides v (inr l) = inr (l.0, omega (arith, l.1))

  -- ---- joined until they are as many as before

  -- if as many columns are left after going over all variables, no two of one time touch
  settled_at : (xs ys : List Column) → IsPassed g (IsVariable g) xs ys → length ys ≡ length xs → AreSettled g xs ys
  settled_at xs ys passed as_many =
      record { joins = passed.joins; good = passed.good; settled = settled_same g (IsVariable g) xs ys passed as_many }

  -- after some rounds over all variables, no two columns of one time touch
  settle : (n : ℕ) (xs : List Column) → length xs ≤ n → IsShorn g xs → (ys : List Column) × AreSettled g xs ys
  -- by induction on a bound of how many columns there are: a round leaves as many, and they are settled, or fewer
  settle zero xs few_columns shorn =
      let passed = pass_all xs shorn in
      elim (cases_eq (length passed.0) (length xs)) [
        | inl as_many ↦ (passed.0, settled_at xs passed.0 passed.1 as_many)
        | inr other ↦ absurd (omega (arith, few_columns, fewer_else g (IsVariable g) xs passed.0 passed.1 other))
      ]
  settle (suc n) xs few_columns shorn =
      let passed = pass_all xs shorn in
      elim (cases_eq (length passed.0) (length xs)) [
        | inl as_many ↦ (passed.0, settled_at xs passed.0 passed.1 as_many)
        | inr other ↦
            let rest = settle n passed.0
            (omega (arith, few_columns, fewer_else g (IsVariable g) xs passed.0 passed.1 other)) passed.1.good in (
              rest.0,
              record {
                joins = joins_through g xs passed.0 rest.0 passed.1.joins rest.1.joins;
                good = rest.1.good;
                settled = rest.1.settled;
              },
            )
      ]

  -- ---- in order by their least scenarios

  -- given: the urgency order, in which each process stands once
  module _ (urgency : List ℕ) (all : IsPermutation (numbers_below (process_count g)) urgency) where
    -- a column has to go behind another if its least scenario comes later
    abbrev lows_after : Column → Column → Bool
    lows_after c d = is_below (lows_along g urgency (low_in d.cube)) (lows_along g urgency (low_in c.cube))

    -- that isn't so both ways
    lows_one_way : (c d : Column) → lows_after c d ≡ true → lows_after d c ≡ false
    lows_one_way c d after = below_one_way (lows_along g urgency (low_in d.cube)) (lows_along g urgency (low_in c.cube))
        after

    -- and where it isn't, it isn't so along a chain
    lows_chain : (c d e : Column) → lows_after c d ≡ false → lows_after d e ≡ false → lows_after c e ≡ false
    lows_chain c d e not_after_d not_after_e = not_below_transitive (lows_along g urgency (low_in c.cube))
        (lows_along g urgency (low_in d.cube)) (lows_along g urgency (low_in e.cube)) not_after_d not_after_e

    -- columns that may be merged have a merge
    pub merge_exists : (entries : List Column) → AreMergeable g entries →
        (columns : List Column) × IsMergeOf g urgency entries columns
    -- their whole literals are left out, they are settled, and then put in order
    merge_exists entries mergeable =
        let shorn = shorn_columns g few entries mergeable in
        let settled = settle (length (all_shorn g.faults entries)) (all_shorn g.faults entries) (omega arith) shorn in
        let ordered = in_order lows_after lows_one_way lows_chain settled.0 in
        let up : AreByLows (λ (c : Column). c.cube) g urgency ordered =
        rises_in_order lows_after lows_one_way lows_chain settled.0 (columns_differ settled.0 settled.1.good) in (
          ordered,
          merge_of g few urgency all entries settled.0 ordered mergeable settled.1
              (permutation_in_order lows_after lows_one_way lows_chain settled.0) up,
        )
