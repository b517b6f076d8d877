-- The steps of merging: leaving out whole literals, putting columns in another order, a walk at one variable, and
-- steps one after another.
use Rattle.std.proofs.Common.{ℕ, ◌<◌, ◌≤◌, ◌≡◌, ◌≢◌, ◌⊎◌, true, false, cond, List, [], ◌∷◌, length, filter, get_or}
use Rattle.std.proofs.Common.{sum_by, Contains, All, IsPermutation, arith, refl, sym, ap, ap₂, ◌∙◌, subst, ⊎_elim}
use Rattle.std.proofs.Common.{inl, inr}
use Rattle.std.specs.Ordering.{is_lt}
use Rattle.std.specs.List.Sorted.{IsSortedBy}
use Rattle.std.proofs.lemmas.Bool.{cond-false, or_parts}
use Rattle.std.proofs.lemmas.List.{length-map}
use Rattle.std.proofs.lemmas.List.Elements.{All-contains, All-head, All-tail, All-map}
use Rattle.std.proofs.lemmas.List.Sorted.{All-permutation, Contains-permutation, IsPermutation-refl, IsPermutation-sym}
use Rattle.std.proofs.lemmas.List.Sorted.{IsPermutation-trans, length_permutation, sum_by-IsPermutation}
use Rattle.std.proofs.lemmas.List.Sums.{length-filter}
use Rattle.cpg_base.specs.Graph.{Graph, process_count, IsVariable}
use Rattle.cpg_base.proofs.Lists.{Contains-first, Contains-cases, Contains-nil, Contains-filter, Contains-filter_parts}
use Rattle.cpg_base.proofs.Lists.{Contains-map, Contains-map_parts}
use Rattle.cpg_base.specs.Scenario.{Scenario, IsScenario}
use Rattle.cpg_cube.specs.Cube.{matches, is_whole}
use Rattle.cpg_base.specs.Variable.{top}
use Rattle.cpg_cube.specs.Fit.{IsCube, lows}
use Rattle.cpg_cube.proofs.CubeLows.{met_by, lows-lawful, lows-match}
use Rattle.cpg_cube.specs.declared.column.Column.{Column}
use Rattle.cpg_cube.specs.Column.{times_in}
use Rattle.cpg_merging.specs.Merged.{AreMergeable}
use Rattle.cpg_merging.specs.Merging.{shorn, is_followed, is_any_followed_from, is_any_followed, joined, column_cmp}
use Rattle.cpg_merging.specs.Merging.{walked, walked_over, all_shorn, IsShorn, IsJoinOf, IsSettledOn, IsPassed}
use Rattle.cpg_merging.specs.Merging.{IsSortedAs}
use Rattle.cpg_cube.specs.Keys.{AreByLows}
use Rattle.cpg_cube.specs.declared.listing.Listing.{Listing}
use Rattle.cpg_merging.proofs.MergingCubes.{All-from_each}
use Rattle.cpg_merging.proofs.MergingPairs.{IsGood, wider_itself, shorn_wider, matches_shorn, good_shorn}
use Rattle.cpg_merging.proofs.MergingLists.{AreGood, times_first, joins_itself, joins_through, walk}
use Rattle.cpg_merging.proofs.MergingSettled.{settled}

-- no scenario matches two of the columns
abbrev pub AreSingle : Graph → List Column → Type 0
AreSingle g columns = (s : Scenario) → IsScenario g s → length (times_in columns s) ≤ 1

-- given: a graph of at most 128 processes
module _ (g : Graph) (few : process_count g ≤ 128) where
  -- columns that may be merged, without literals of the whole range, are good
  pub good_of : (columns : List Column) → IsShorn g columns → AreGood g columns
  -- each part is a fact of the columns, and a cube that some scenario matches is met
  good_of columns is_shorn = All-from_each {P = λ c. IsGood g c.cube} columns (λ c member.
      let is = All-contains (λ (x : Column). IsCube g x.cube) columns c is_shorn.good.cubes member in
      let within =
      All-contains (λ (x : Column). All (λ l. l.high ≤ top g.faults l.variable) x.cube) columns c
      is_shorn.good.within member in
      let not_whole = All-contains
      (λ (x : Column). All (λ l. is_whole g.faults l ≡ false) x.cube) columns c is_shorn.not_whole member in
      let matched = All-contains (λ (x : Column). (s : Scenario) × IsScenario g s × (matches x.cube s ≡ true)) columns
      c is_shorn.good.met member in
      record {
        cube = is;
        narrow = λ k d inside. (not_whole k d inside, within k d inside);
        met = met_by g few c.cube is matched.0 matched.1 matched.2;
      })

  -- good columns, of which no scenario matches two, may be merged and have no literals of the whole range
  pub shorn_of : (columns : List Column) → AreGood g columns → AreSingle g columns → IsShorn g columns
  shorn_of columns all_good single = record {
    good = record {
      -- cubes and variables are as in good columns
      cubes = λ k d inside. (all_good k d inside).cube;
      within = λ k d inside i e inside_cube. ((all_good k d inside).narrow i e inside_cube).1;
      -- the lows of a cube are a scenario that it matches
      met = λ k d inside.
          let column = get_or columns k d in
          let good_k = all_good k d inside in (
            lows g column.cube,
            lows-lawful g few column.cube good_k.cube good_k.met,
            lows-match g few column.cube good_k.cube good_k.met,
          );
      apart = single;
    };
    -- no literal of a good column has the whole range
    not_whole = λ k d inside i e inside_cube. ((all_good k d inside).narrow i e inside_cube).0;
  }

  -- ---- the entries without their whole literals

  -- a column without its whole literals
  abbrev shorn_column : Column → Column
  shorn_column c = record { time = c.time; cube = shorn g.faults c.cube }

  -- leaving out literals of the whole range changes no times
  times_shorn : (columns : List Column) (s : Scenario) → IsScenario g s → All (λ c. IsCube g c.cube) columns →
      times_in (all_shorn g.faults columns) s ≡ times_in columns s
  -- by induction on the list
  times_shorn [] s lawful is = refl
  times_shorn (c ∷ cs) s lawful is = times_first (shorn_column c) (all_shorn g.faults cs) s
      ∙ ap₂ (λ m ts. cond m (c.time ∷ ts) ts)
      (matches_shorn g few c.cube s lawful (All-head (λ (x : Column). IsCube g x.cube) c cs is))
      (times_shorn cs s lawful (All-tail (λ (x : Column). IsCube g x.cube) c cs is))
      ∙ sym (times_first c cs s)

  -- the columns without their whole literals are a join of the columns
  pub joins_shorn : (columns : List Column) → AreMergeable g columns → IsJoinOf g columns (all_shorn g.faults columns)
  joins_shorn columns mergeable = record {
    times = λ s lawful. times_shorn columns s lawful mergeable.cubes;
    held = λ e member. (
      shorn_column e,
      Contains-map shorn_column columns e member,
      refl,
      shorn_wider g.faults e.cube
          (All-contains (λ (x : Column). IsCube g x.cube) columns e mergeable.cubes member).rising,
    );
  }

  -- without their whole literals, columns may be merged, and have none of these
  pub shorn_columns : (columns : List Column) → AreMergeable g columns → IsShorn g (all_shorn g.faults columns)
  shorn_columns columns mergeable = shorn_of (all_shorn g.faults columns)
      (All-map (λ (x : Column). IsGood g x.cube) shorn_column columns
      (All-from_each {P = λ c. IsGood g (shorn g.faults c.cube)} columns (λ c member.
      let matched = All-contains (λ (x : Column). (s : Scenario) × IsScenario g s × (matches x.cube s ≡ true))
      columns c mergeable.met member in
      good_shorn g few c.cube matched.0 matched.1 matched.2
      (All-contains (λ (x : Column). IsCube g x.cube) columns c mergeable.cubes member)
      (All-contains (λ (x : Column). All (λ l. l.high ≤ top g.faults l.variable) x.cube) columns c mergeable.within
      member))))
      (λ s lawful. subst (λ ts. length ts ≤ 1) (sym (times_shorn columns s lawful mergeable.cubes))
      (mergeable.apart s lawful))

  -- ---- another order of columns of which at most one matches

  -- two lists of at most one number are equal if each has what the other has
  one_same : (xs ys : List ℕ) → length xs ≤ 1 → length ys ≤ 1 → ((x : ℕ) → Contains xs x → Contains ys x) →
      ((x : ℕ) → Contains ys x → Contains xs x) → xs ≡ ys
  one_same [] [] few_xs few_ys to_ys to_xs = refl
  one_same [] (y ∷ ys) few_xs few_ys to_ys to_xs = absurd (Contains-nil y (to_xs y (Contains-first y ys)))
  one_same (x ∷ xs) [] few_xs few_ys to_ys to_xs = absurd (Contains-nil x (to_ys x (Contains-first x xs)))
  one_same (x ∷ []) (y ∷ []) few_xs few_ys to_ys to_xs = ⊎_elim (λ (same : y ≡ x). ap (λ z. z ∷ []) (sym same))
      (λ (in_none : Contains [] x). absurd (Contains-nil x in_none))
      (Contains-cases y [] x (to_ys x (Contains-first x [])))
  one_same (x ∷ z ∷ xs) (y ∷ ys) few_xs few_ys to_ys to_xs = absurd (omega arith)
  one_same (x ∷ []) (y ∷ z ∷ ys) few_xs few_ys to_ys to_xs = absurd (omega arith)

  -- given: columns in another order
  module _ (xs ys : List Column) (permuted : IsPermutation xs ys) where
    -- a scenario has a time for each column that matches it
    length_times : (zs : List Column) (s : Scenario) →
        length (times_in zs s) ≡ sum_by (λ c. cond (matches c.cube s) 1 0) zs
    length_times zs s = length-map (filter (λ c. matches c.cube s) zs) (λ (c : Column). c.time)
        ∙ length-filter (λ (c : Column). matches c.cube s) zs

    -- if no scenario matches two of the columns, none matches two of them in another order
    pub single_permuted : AreSingle g xs → AreSingle g ys
    single_permuted single = λ s lawful.
        let xs_times = length_times xs s in
        let ys_times = length_times ys s in
        let same_sum = sum_by-IsPermutation (λ (c : Column). cond (matches c.cube s) 1 0) xs ys permuted in
        let at_most_1 = single s lawful in
        omega arith

    -- good columns in another order are good
    pub good_permuted : AreGood g xs → AreGood g ys
    good_permuted all_good = All-permutation (λ (x : Column). IsGood g x.cube) xs ys permuted all_good

  -- if t is a time that scenario s has in the columns `xs`, it has t in `ys` too, the same columns in another order
  times_permuted : (xs ys : List Column) → IsPermutation xs ys → (s : Scenario) (t : ℕ) → Contains (times_in xs s) t →
      Contains (times_in ys s) t
  times_permuted xs ys permuted s t member =
      let mapped = Contains-map_parts (λ (c : Column). c.time)
      (filter (λ (c : Column). matches c.cube s) xs) t member in
      let filtered = Contains-filter_parts (λ (c : Column). matches c.cube s) xs mapped.0 mapped.1 in
      subst (Contains (times_in ys s)) mapped.2
      (Contains-map (λ (c : Column). c.time) (filter (λ (c : Column). matches c.cube s) ys) mapped.0
      (Contains-filter (λ (c : Column). matches c.cube s) ys mapped.0 filtered.1
      (Contains-permutation xs ys mapped.0 permuted filtered.0)))

  -- columns in another order are a join of them
  pub joins_permuted : (xs ys : List Column) → IsPermutation xs ys → AreSingle g xs → IsJoinOf g xs ys
  joins_permuted xs ys permuted single = record {
    times = λ s lawful. one_same (times_in ys s) (times_in xs s) (single_permuted xs ys permuted single s lawful)
        (single s lawful)
        (times_permuted ys xs (IsPermutation-sym xs ys permuted) s) (times_permuted xs ys permuted s);
    held = λ e member. (e, Contains-permutation xs ys e permuted member, refl, wider_itself g.faults e.cube);
  }

  -- if no scenario matches two columns, none matches two of a join of them
  pub single_joined : (xs ys : List Column) → IsJoinOf g xs ys → AreSingle g xs → AreSingle g ys
  single_joined xs ys joins single =
      λ s lawful. subst (λ ts. length ts ≤ 1) (sym (joins.times s lawful)) (single s lawful)

  -- ---- a step at one variable

  -- a walk over the columns, sorted at v, is a step at v: fewer columns are left, or the same ones, which are settled
  -- at v
  pub passed_on : (v : ℕ) → IsVariable g v → (xs ys : List Column) → IsShorn g xs → IsPermutation xs ys →
      IsSortedBy (λ c d. is_lt (column_cmp v c d)) ys →
      IsPassed g (λ u. u ≡ v) xs (walked_over g.faults v ys)
  -- `go` takes the sorted columns apart: none, or a first one from which the walk goes on
  passed_on v known xs ys is_shorn permuted up =
      go ys permuted up (good_permuted xs ys permuted (good_of xs is_shorn))
      (single_permuted xs ys permuted is_shorn.good.apart)
    where
      -- the columns in sorted order are good, and at most one matches in each scenario, as they are a permutation
      go : (zs : List Column) → IsPermutation xs zs → IsSortedBy (λ c d. is_lt (column_cmp v c d)) zs → AreGood g zs →
          AreSingle g zs →
          IsPassed g (λ u. u ≡ v) xs (walked_over g.faults v zs)
      go [] permuted_zs sorted good single = record {
        joins = joins_permuted xs [] permuted_zs is_shorn.good.apart;
        good = shorn_of [] good single;
        fewer = inr (permuted_zs, λ u e c d in_none n t k. Contains-nil c in_none);
      }
      -- the walk gives a join of the columns: with fewer of them, or with the same ones, which are settled on v then
      go (z ∷ zs) permuted_zs sorted good single =
          let walked_is = walk g few v known z zs good in
          let joins_z = joins_permuted xs (z ∷ zs) permuted_zs is_shorn.good.apart in
          let same_length = length_permutation xs (z ∷ zs) permuted_zs in
          record {
            joins = joins_through g xs (z ∷ zs) (walked g.faults v z zs) joins_z walked_is.joins;
            good = shorn_of (walked g.faults v z zs) walked_is.good
                (single_joined (z ∷ zs) (walked g.faults v z zs) walked_is.joins single);
            fewer = ⊎_elim
                (λ (less : length (walked g.faults v z zs) < length (z ∷ zs)). inl (omega arith))
                (λ (same : walked g.faults v z zs ≡ z ∷ zs). inr (
                  subst (IsPermutation xs) (sym same) permuted_zs,
                  λ u is_v. subst (λ y. IsSettledOn g.faults y (walked g.faults v z zs)) (sym is_v)
                      (settled g few v known z zs good single sorted),
                ))
                walked_is.fewer;
          }

-- ---- steps that leave columns as they are

-- if no column follows the one before it, a walk from c leaves all as they are
not_walked : (k v : ℕ) (c : Column) (cs : List Column) → is_any_followed_from k v c cs ≡ false →
    walked k v c cs ≡ c ∷ cs
-- by induction on the list
not_walked k v c [] none_followed = refl
not_walked k v c (d ∷ ds) none_followed =
    cond-false (is_followed k v c d) (walked k v (joined k v c d) ds) (c ∷ walked k v d ds)
    (or_parts (is_followed k v c d) (is_any_followed_from k v d ds) none_followed).0
    ∙ ap (λ xs. c ∷ xs) (not_walked k v d ds
    (or_parts (is_followed k v c d) (is_any_followed_from k v d ds) none_followed).1)

-- if no column follows the one before it, the walk over the columns, of which there may be none, leaves them as they
-- are
pub not_walked_over : (k v : ℕ) (cs : List Column) → is_any_followed k v cs ≡ false → walked_over k v cs ≡ cs
not_walked_over k v [] none_followed = refl
not_walked_over k v (c ∷ cs) none_followed = not_walked k v c cs none_followed

-- ---- steps one after another

-- `g` is the graph that the columns are of
module _ (g : Graph) where
  -- columns that are settled at v need no step there
  pub passed_settled : (v : ℕ) → (xs : List Column) → IsShorn g xs → IsSettledOn g.faults v xs →
      IsPassed g (λ u. u ≡ v) xs xs
  passed_settled v xs is_shorn apart = record {
    joins = joins_itself g xs;
    good = is_shorn;
    fewer = inr (IsPermutation-refl xs, λ u is_v. subst (λ y. IsSettledOn g.faults y xs) (sym is_v) apart);
  }

  -- columns that are settled at v are settled at v in any other order
  settled_permuted : (v : ℕ) (xs ys : List Column) → IsPermutation xs ys → IsSettledOn g.faults v xs →
      IsSettledOn g.faults v ys
  settled_permuted v xs ys permuted settled_xs =
      λ c d c_in d_in. settled_xs c d (Contains-permutation ys xs c (IsPermutation-sym xs ys permuted) c_in)
      (Contains-permutation ys xs d (IsPermutation-sym xs ys permuted) d_in)

  -- going over no variables leaves the columns as they are
  pub passed_none : (P : ℕ → Type 0) → ((v : ℕ) → P v → ⊥) → (xs : List Column) → IsShorn g xs → IsPassed g P xs xs
  passed_none P none xs is_shorn =
      record {
        joins = joins_itself g xs;
        good = is_shorn;
        fewer = inr (IsPermutation-refl xs, λ v holds. absurd (none v holds));
      }

  -- a step over some variables is a step over fewer of them
  pub passed_wider : (P Q : ℕ → Type 0) → ((v : ℕ) → Q v → P v) → (xs ys : List Column) → IsPassed g P xs ys →
      IsPassed g Q xs ys
  passed_wider P Q weaker xs ys passed = record {
    joins = passed.joins;
    good = passed.good;
    fewer = ⊎_elim
        (λ (less : length ys < length xs). inl less)
        (λ (same : IsPermutation xs ys × ((v : ℕ) → P v → IsSettledOn g.faults v ys)). inr
        (same.0, λ v holds. same.1 v (weaker v holds)))
        passed.fewer;
  }

  -- going over some variables and then over others is going over all of these; if no column was joined in either, the
  -- first ones stay settled in another order
  pub passed_through : (P Q R : ℕ → Type 0) → ((v : ℕ) → R v → P v ⊎ Q v) → (xs ys zs : List Column) →
      IsPassed g P xs ys → IsPassed g Q ys zs →
      IsPassed g R xs zs
  -- columns that become fewer in either step are fewer in the end; if they don't in either, they are the same in some
  -- order
  passed_through P Q R split xs ys zs first_passed then_passed = record {
    joins = joins_through g xs ys zs first_passed.joins then_passed.joins;
    good = then_passed.good;
    fewer = ⊎_elim
        (λ (less : length ys < length xs). inl (⊎_elim
        (λ (less_again : length zs < length ys). let shorter : length zs < length xs = omega arith in shorter)
        (λ (same_zs : IsPermutation ys zs × ((v : ℕ) → Q v → IsSettledOn g.faults v zs)).
        let same_length = length_permutation ys zs same_zs.0 in
        let shorter : length zs < length xs = omega arith in
        shorter)
        then_passed.fewer))
        (λ (same_ys : IsPermutation xs ys × ((v : ℕ) → P v → IsSettledOn g.faults v ys)).
        let same_length = length_permutation xs ys same_ys.0 in
        ⊎_elim
        (λ (less : length zs < length ys). inl (let shorter : length zs < length xs = omega arith in shorter))
        (λ (same_zs : IsPermutation ys zs × ((v : ℕ) → Q v → IsSettledOn g.faults v zs)). inr (
          IsPermutation-trans xs ys zs same_ys.0 same_zs.0,
          λ v holds. ⊎_elim (λ (p_holds : P v). settled_permuted v ys zs same_zs.0 (same_ys.1 v p_holds))
              (λ (q_holds : Q v). same_zs.1 v q_holds) (split v holds),
        ))
        then_passed.fewer)
        first_passed.fewer;
  }

  -- if as many columns are left as before, they are settled at the variables gone over
  pub settled_same : (P : ℕ → Type 0) (xs ys : List Column) → IsPassed g P xs ys → length ys ≡ length xs → (v : ℕ) →
      P v →
      IsSettledOn g.faults v ys
  settled_same P xs ys passed same_length = ⊎_elim
      (λ (less : length ys < length xs). absurd (omega arith))
      (λ (same : IsPermutation xs ys × ((v : ℕ) → P v → IsSettledOn g.faults v ys)). same.1)
      passed.fewer

  -- if as many columns are left as before, they are the same in some order
  pub permuted_same : (P : ℕ → Type 0) (xs ys : List Column) → IsPassed g P xs ys → length ys ≡ length xs →
      IsPermutation xs ys
  permuted_same P xs ys passed same_length = ⊎_elim
      (λ (less : length ys < length xs). absurd (omega arith))
      (λ (same : IsPermutation xs ys × ((v : ℕ) → P v → IsSettledOn g.faults v ys)). same.0)
      passed.fewer

  -- if not as many columns are left as before, there are fewer
  pub fewer_else : (P : ℕ → Type 0) (xs ys : List Column) → IsPassed g P xs ys → length ys ≢ length xs →
      length ys < length xs
  fewer_else P xs ys passed differ = ⊎_elim
      (λ (less : length ys < length xs). less)
      (λ (same : IsPermutation xs ys × ((v : ℕ) → P v → IsSettledOn g.faults v ys)).
      absurd (differ (length_permutation xs ys same.0)))
      passed.fewer

-- ---- columns that are known to be sorted

-- If the listing `middle` is made of `before`, and `after` of `middle`, and `after` is known to be sorted, so was
-- `before`, and both have the same columns.
pub sorted_through : (before middle after : Listing) → IsSortedAs before middle → IsSortedAs middle after →
    IsSortedAs before after
sorted_through before middle after to_middle to_after after_sorted =
    let later = to_after after_sorted in
    let earlier = to_middle later.0 in
    (earlier.0, later.1 ∙ earlier.1)

-- If columns that are known to be sorted stand by their lows, so do those of a later listing that are known to be
-- sorted, as they are the same.
pub sorted_still : (g : Graph) (order : List ℕ) (before after : Listing) →
    (before.is_sorted ≡ true → AreByLows (λ (c : Column). c.cube) g order before.columns.items) →
    IsSortedAs before after →
    after.is_sorted ≡ true → AreByLows (λ (c : Column). c.cube) g order after.columns.items
sorted_still g order before after stood same after_sorted = let is = same after_sorted in
    subst (AreByLows (λ (c : Column). c.cube) g order) (sym is.1) (stood is.0)
