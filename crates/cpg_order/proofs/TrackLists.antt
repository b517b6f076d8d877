-- A graph has exactly one list of tracks.
use Rattle.std.proofs.Common.{◌≡◌, ◌≢◌, ℕ, zero, suc, ◌^◌, ◌<◌, Bool, true, false, not, cond, ◌&&◌, ◌||◌, List, [], ◌∷◌}
use Rattle.std.proofs.Common.{length, get_or, filter, Contains, AllPairs, IsPermutation, refl, sym, ap, ◌∙◌}
use Rattle.std.proofs.Common.{subst, arith, inl, inr, ◌⊎◌, true≢false}
use Rattle.std.proofs.lemmas.List.{ext_get_or}
use Rattle.std.proofs.lemmas.List.Elements.{All-weaker, All-contains_itself, All-filter}
use Rattle.std.proofs.lemmas.List.Kept.{AllPairs-filter}
use Rattle.std.proofs.lemmas.List.Sorted.{length_permutation, Contains-permutation, IsPermutation-sym}
use Rattle.std.proofs.lemmas.Bool.{cases_Bool, and_parts, and_from, both_ways, not-true, not_from_false, or_right}
use Rattle.cpg_base.specs.Numbers.{numbers_below, same_bool}
use Rattle.cpg_base.specs.Graph.{Graph, process_at, edge_at, source, process_count, condition_count, process_of, inputs}
use Rattle.cpg_base.specs.Activity.{takes, value_of, is_active, activation_by, activation_within, active}
use Rattle.cpg_base.proofs.Lists.{Contains-first, Contains-cases, Contains-nil, Contains-filter, Contains-filter_parts}
use Rattle.cpg_base.proofs.Lists.{Contains-numbers, numbers-Contains, list_any_true, list_any_parts, all_from}
use Rattle.cpg_base.proofs.Items.{same_condition, process_of_below}
use Rattle.cpg_base.proofs.Pairs.{AllPairs-first, numbers_apart}
use Rattle.cpg_base.proofs.Sorted.{one_order, sorted, permutation_sorted, rises_sorted}
use Rattle.cpg_order.specs.Urgency.{is_more_urgent}
use Rattle.cpg_order.specs.Deciding.{outcomes, agree_on, earlier_conditions}
use Rattle.cpg_order.proofs.Outcomes.{length_of_outcome, same_bool_is, same_bool_refl, agree_at, agree_from}
use Rattle.cpg_order.proofs.Urgent.{urgent_total, not_both_more_urgent, urgent_chain}
use Rattle.cpg_order.proofs.ScenariosApart.{outcomes_apart, length-outcomes}
use Rattle.cpg_order.specs.Track.{is_track, is_outcome_before, AreTracks}

module _ (g : Graph) where
  -- a condition with a more urgent process is an earlier condition
  pub Contains-earlier : (c d : ℕ) → d < condition_count g → is_more_urgent g (process_of g d) (process_of g c) ≡ true →
      Contains (earlier_conditions g c) d
  Contains-earlier c d inside urgent = Contains-filter (λ d. is_more_urgent g (process_of g d) (process_of g c))
      (numbers_below (condition_count g)) d urgent (Contains-numbers (condition_count g) d inside)

  -- an earlier condition is one of the graph, with a more urgent process
  pub earlier_parts : (c d : ℕ) → Contains (earlier_conditions g c) d →
      (d < condition_count g) × (is_more_urgent g (process_of g d) (process_of g c) ≡ true)
  earlier_parts c d listed = let parts = Contains-filter_parts (λ d. is_more_urgent g (process_of g d) (process_of g c))
      (numbers_below (condition_count g)) d listed in
      (numbers-Contains (condition_count g) d parts.0, parts.1)

  -- different conditions are of different processes
  pub conditions_apart : (c d : ℕ) → c < condition_count g → d < condition_count g → c ≢ d →
      process_of g c ≢ process_of g d
  conditions_apart c d c_inside d_inside differ same = differ (same_condition g c d c_inside d_inside same)

  -- where the outcomes first differ
  pub record FirstDiffers (o p : List Bool) (c : ℕ) : Type 0 where
    -- the condition is one of the graph
    pub within : c < condition_count g
    -- it is false in the first outcome
    pub one : get_or o c false ≡ false
    -- it is true in the second
    pub other : get_or p c false ≡ true
    -- the outcomes agree on all more urgent conditions
    pub same : agree_on (earlier_conditions g c) o p ≡ true

  -- An outcome that comes before another is false at the first condition at which they differ.
  -- The condition is the one that passes the test, and these are the parts of the test.
  pub before_parts : (o p : List Bool) → is_outcome_before g o p ≡ true → (c : ℕ) × FirstDiffers o p c
  before_parts o p before =
      let found = list_any_parts (λ c. not (get_or o c false) && get_or p c false
      && agree_on (earlier_conditions g c) o p)
      (numbers_below (condition_count g)) before in
      let parts =
      and_parts (not (get_or o found.0 false) && get_or p found.0 false)
      (agree_on (earlier_conditions g found.0) o p) found.2 in
      let values = and_parts (not (get_or o found.0 false)) (get_or p found.0 false) parts.0 in (
        found.0,
        record {
          within = numbers-Contains (condition_count g) found.0 found.1;
          one = not-true (get_or o found.0 false) values.0;
          other = values.1;
          same = parts.1;
        },
      )

  -- an outcome that is false at the first condition at which it differs from another comes before it
  pub before_from : (o p : List Bool) (c : ℕ) → FirstDiffers o p c → is_outcome_before g o p ≡ true
  before_from o p c first_differs =
      list_any_true (λ c. not (get_or o c false) && get_or p c false && agree_on (earlier_conditions g c) o p)
      (numbers_below (condition_count g)) c
      (Contains-numbers (condition_count g) c first_differs.within)
      (and_from (not (get_or o c false) && get_or p c false) (agree_on (earlier_conditions g c) o p)
      (and_from (not (get_or o c false)) (get_or p c false)
      (not_from_false (get_or o c false) first_differs.one) first_differs.other) first_differs.same)

  -- Of two outcomes at most one comes before the other.
  -- The two first conditions at which they differ are different, and one is more urgent; at that one the outcomes would
  -- agree.
  pub before_one_way : (o p : List Bool) → is_outcome_before g o p ≡ true → is_outcome_before g p o ≡ true → ⊥
  before_one_way o p o_first p_first = go (before_parts o p o_first) (before_parts p o p_first)
    where
      -- by which of the two conditions is of the more urgent process
      go : (c : ℕ) × FirstDiffers o p c → (d : ℕ) × FirstDiffers p o d → ⊥
      go forth back = elim (urgent_total g (process_of g forth.0) (process_of g back.0)
          (conditions_apart forth.0 back.0 (forth.1).within (back.1).within conditions_differ)) [
            | inl urgent ↦ true≢false (sym (forth.1).other ∙ agree_at (earlier_conditions g back.0) p o forth.0
                (back.1).same (Contains-earlier back.0 forth.0 (forth.1).within urgent) ∙ (forth.1).one)
            | inr urgent ↦ true≢false (sym (back.1).other ∙ agree_at (earlier_conditions g forth.0) o p back.0
                (forth.1).same (Contains-earlier forth.0 back.0 (back.1).within urgent) ∙ (back.1).one)
          ]
        where
          -- the two conditions differ, since their values do
          conditions_differ : forth.0 ≢ back.0
          conditions_differ same = true≢false
              (sym (back.1).other ∙ ap (λ c. get_or o c false) (sym same) ∙ (forth.1).one)

  -- if one outcome comes before another and that before a third, the first comes before the third
  pub before_chain : (o p q : List Bool) → is_outcome_before g o p ≡ true → is_outcome_before g p q ≡ true →
      is_outcome_before g o q ≡ true
  before_chain o p q o_first p_first = go (before_parts o p o_first) (before_parts p q p_first)
    where
      -- `first_change` is where o and p first differ, and `second_change` where p and q do; o and q first differ at the
      -- more urgent of the two conditions
      go : (c : ℕ) × FirstDiffers o p c → (d : ℕ) × FirstDiffers p q d → is_outcome_before g o q ≡ true
      go first_change second_change = elim (urgent_total g (process_of g first_change.0) (process_of g second_change.0)
          (conditions_apart first_change.0 second_change.0 (first_change.1).within
          (second_change.1).within conditions_differ)) [
            | inl urgent ↦ before_from o q first_change.0 (record {
              within = (first_change.1).within;
              one = (first_change.1).one;
              other =
                  sym (agree_at (earlier_conditions g second_change.0) p q first_change.0 (second_change.1).same
                  (Contains-earlier second_change.0 first_change.0 (first_change.1).within urgent))
                  ∙ (first_change.1).other;
              same = agree_from (earlier_conditions g first_change.0) o q
                  (λ e listed. let parts = earlier_parts first_change.0 e listed in
                  agree_at (earlier_conditions g first_change.0) o p e (first_change.1).same listed
                  ∙ agree_at (earlier_conditions g second_change.0) p q e (second_change.1).same
                  (Contains-earlier second_change.0 e parts.0
                  (urgent_chain g (process_of g e) (process_of g first_change.0)
                  (process_of g second_change.0) parts.1 urgent)));
            })
            | inr urgent ↦ before_from o q second_change.0 (record {
              within = (second_change.1).within;
              one = agree_at (earlier_conditions g first_change.0) o p second_change.0 (first_change.1).same
                  (Contains-earlier first_change.0 second_change.0 (second_change.1).within urgent)
                  ∙ (second_change.1).one;
              other = (second_change.1).other;
              same = agree_from (earlier_conditions g second_change.0) o q
                  (λ e listed. let parts = earlier_parts second_change.0 e listed in
                  agree_at (earlier_conditions g first_change.0) o p e (first_change.1).same
                  (Contains-earlier first_change.0 e parts.0
                  (urgent_chain g (process_of g e) (process_of g second_change.0)
                  (process_of g first_change.0) parts.1 urgent))
                  ∙ agree_at (earlier_conditions g second_change.0) p q e (second_change.1).same listed);
            })
          ]
        where
          -- the two conditions differ, since their values do
          conditions_differ : first_change.0 ≢ second_change.0
          conditions_differ same = true≢false
              (sym (first_change.1).other ∙ ap (λ c. get_or p c false) same ∙ (second_change.1).one)

  -- ---- outcomes that differ have a first condition at which they do

  -- equal values are found the same
  from_same : (a b : Bool) → a ≡ b → same_bool a b ≡ true
  from_same a b equal = subst (λ v. same_bool a v ≡ true) equal (same_bool_refl a)

  -- whether two outcomes differ at a condition
  abbrev differ : List Bool → List Bool → ℕ → Bool
  differ o p c = not (same_bool (get_or o c false) (get_or p c false))

  -- whether the process of one condition is more urgent than that of the other
  abbrev sooner : ℕ → ℕ → Bool
  sooner c d = is_more_urgent g (process_of g c) (process_of g d)

  -- given two different outcomes
  module _ (o p : List Bool) (size_o : length o ≡ condition_count g) (size_p : length p ≡ condition_count g)
      (different : o ≢ p) where
    -- two different outcomes differ in some condition
    some_differ : filter (differ o p) (numbers_below (condition_count g)) ≡ [] → ⊥
    some_differ none_listed = different (ext_get_or false o p (size_o ∙ sym size_p)
        (λ c inside. elim (cases_Bool (same_bool (get_or o c false) (get_or p c false))) [
          | inl same ↦ same_bool_is (get_or o c false) (get_or p c false) same
          | inr not_same ↦ absurd (Contains-nil c (subst (λ xs. Contains xs c) none_listed
              (Contains-filter (differ o p) (numbers_below (condition_count g)) c
              (not_from_false (same_bool (get_or o c false) (get_or p c false)) not_same)
              (Contains-numbers (condition_count g) c (omega (arith, size_o))))))
        ]))

    -- the conditions at which they differ, in order
    abbrev Listed : List ℕ → Type 0
    Listed xs = ((c : ℕ) → Contains xs c → (c < condition_count g) × (differ o p c ≡ true)) ×
        ((c : ℕ) → c < condition_count g → differ o p c ≡ true → Contains xs c) ×
        AllPairs (λ c d. sooner c d ≡ true) xs

    -- the conditions in which two outcomes differ, the most urgent first
    in_order : List ℕ
    in_order = sorted sooner (filter (differ o p) (numbers_below (condition_count g)))

    -- The conditions in which o and p differ are listed, no others are, and they stand by urgency.
    -- The list is a filter of all conditions, sorted by urgency, which is total on them.
    listed : Listed in_order
    unfolding in_order
    listed =
        let xs : List ℕ = filter (differ o p) (numbers_below (condition_count g)) in
        let perm : IsPermutation xs (sorted sooner xs) = permutation_sorted sooner xs in (
          λ c is_listed. let parts = Contains-filter_parts (differ o p) (numbers_below (condition_count g)) c
              (Contains-permutation (sorted sooner xs) xs c (IsPermutation-sym xs (sorted sooner xs) perm) is_listed) in
              (numbers-Contains (condition_count g) c parts.0, parts.1),
          λ c inside differs. Contains-permutation xs (sorted sooner xs) c perm (Contains-filter (differ o p)
              (numbers_below (condition_count g)) c differs (Contains-numbers (condition_count g) c inside)),
          rises_sorted sooner (λ c. c < condition_count g)
              (λ c d c_inside d_inside apart.
              urgent_total g (process_of g c) (process_of g d) (conditions_apart c d c_inside d_inside apart))
              (λ c d e c_inside d_inside e_inside first second.
              urgent_chain g (process_of g c) (process_of g d) (process_of g e) first second) xs
              (All-filter (differ o p) (λ c. c < condition_count g) (numbers_below (condition_count g))
              (All-weaker (Contains (numbers_below (condition_count g))) (λ c. c < condition_count g)
              (λ c within. numbers-Contains (condition_count g) c within) (numbers_below (condition_count g))
              (All-contains_itself (numbers_below (condition_count g)))))
              (AllPairs-filter ◌≢◌ (differ o p) (numbers_below (condition_count g))
              (numbers_apart (condition_count g))),
        )

    -- There is one, since the outcomes differ.
    -- Were there none, they would agree on each condition, and so be equal.
    not_empty : in_order ≡ [] → ⊥
    not_empty empty = some_differ (none (filter (differ o p) (numbers_below (condition_count g))) refl)
      where
        -- by whether some condition differs in the outcomes
        none : (xs : List ℕ) → filter (differ o p) (numbers_below (condition_count g)) ≡ xs → xs ≡ []
        none [] is = refl
        none (c ∷ cs) is =
            let is_listed : Contains (filter (differ o p) (numbers_below (condition_count g))) c =
            subst (λ ys. Contains ys c) (sym is) (Contains-first c cs) in
            let parts = Contains-filter_parts (differ o p) (numbers_below (condition_count g)) c is_listed in
            absurd (Contains-nil c
            (subst (λ ys. Contains ys c) empty (listed.1 c (numbers-Contains (condition_count g) c parts.0) parts.1)))

    -- the value of the first says which outcome comes before
    first_of : (xs : List ℕ) → in_order ≡ xs → (is_outcome_before g o p ≡ true) ⊎ (is_outcome_before g p o ≡ true)
    first_of [] is = absurd (not_empty is)
    first_of (c ∷ cs) is = go (get_or o c false) (get_or p c false) refl refl
      where
        -- what is known of the listed conditions, with c as the first of them
        here : Listed (c ∷ cs)
        here = subst Listed is listed

        -- the first is a condition of the graph
        within : c < condition_count g
        within = (here.0 c (Contains-first c cs)).0

        -- a condition more urgent than c has the same value in both, else it would be listed before c
        same : (d : ℕ) → Contains (earlier_conditions g c) d → get_or o d false ≡ get_or p d false
        same d is_earlier =
            let parts = earlier_parts c d is_earlier in
            elim (cases_Bool (same_bool (get_or o d false) (get_or p d false))) [
              | inl equal ↦ same_bool_is (get_or o d false) (get_or p d false) equal
              | inr not_equal ↦ elim (Contains-cases c cs d
                  (here.1 d parts.0 (not_from_false (same_bool (get_or o d false) (get_or p d false)) not_equal))) [
                    | inl is ↦ let itself =
                        subst (λ z. is_more_urgent g (process_of g z) (process_of g c) ≡ true) (sym is) parts.1 in
                        absurd (not_both_more_urgent g (process_of g c) (process_of g c) itself itself)
                    | inr in_rest ↦ absurd (not_both_more_urgent g (process_of g d) (process_of g c) parts.1
                        (AllPairs-first (λ c d. sooner c d ≡ true) c cs here.2 d in_rest))
                  ]
            ]

        -- the two outcomes differ in the first condition
        differs : same_bool (get_or o c false) (get_or p c false) ≡ false
        differs = not-true (same_bool (get_or o c false) (get_or p c false)) (here.0 c (Contains-first c cs)).1

        -- The outcome that has c false comes first.
        -- By the two values, which can't be the same.
        go : (a b : Bool) → get_or o c false ≡ a → get_or p c false ≡ b →
            (is_outcome_before g o p ≡ true) ⊎ (is_outcome_before g p o ≡ true)
        go true true o_value p_value = absurd (both_ways (same_bool (get_or o c false) (get_or p c false)) differs
            (from_same (get_or o c false) (get_or p c false) (o_value ∙ sym p_value)))
        go false false o_value p_value = absurd (both_ways (same_bool (get_or o c false) (get_or p c false)) differs
            (from_same (get_or o c false) (get_or p c false) (o_value ∙ sym p_value)))
        go false true o_value p_value = inl (before_from o p c
            (record {
              within = within;
              one = o_value;
              other = p_value;
              same = agree_from
                  (earlier_conditions g c) o p same;
            }))
        go true false o_value p_value = inr (before_from p o c
            (record {
              within = within;
              one = p_value;
              other = o_value;
              same = agree_from (earlier_conditions g c) p o
                  (λ d k. sym (same d k));
            }))

    -- of two different outcomes one comes before the other
    pub before_total : (is_outcome_before g o p ≡ true) ⊎ (is_outcome_before g p o ≡ true)
    before_total = first_of in_order refl

  -- ---- the list of tracks

  -- a graph has only one list of tracks
  pub one_list_of_tracks : (a b : List (List Bool)) → AreTracks g a → AreTracks g b → a ≡ b
  one_list_of_tracks a b a_is b_is = one_order (λ o p. is_outcome_before g o p ≡ true) before_one_way
      (filter (is_track g) (outcomes (condition_count g))) a b a_is.all b_is.all a_is.in_order b_is.in_order

  -- the list of tracks is as long as there are tracks among the outcomes
  pub count_of_tracks : (tracks : List (List Bool)) → AreTracks g tracks →
      length tracks ≡ length (filter (is_track g) (outcomes (condition_count g)))
  count_of_tracks tracks are = length_permutation (filter (is_track g) (outcomes (condition_count g))) tracks are.all

-- ---- there is one

-- Each graph has a list of tracks.
-- All tracks, sorted: of two different outcomes of one length one comes first.
pub tracks_exist : (g : Graph) → (tracks : List (List Bool)) × AreTracks g tracks
tracks_exist g = let all : List (List Bool) = filter (is_track g) (outcomes (condition_count g)) in (
  sorted (is_outcome_before g) all,
  record {
    all = permutation_sorted (is_outcome_before g) all;
    in_order = rises_sorted (is_outcome_before g) (λ o. length o ≡ condition_count g)
        (λ o p size_o size_p different. before_total g o p size_o size_p different)
        (λ o p q size_o size_p size_q first second. before_chain g o p q first second) all
        (All-filter (is_track g) (λ o. length o ≡ condition_count g) (outcomes (condition_count g))
        (All-weaker (Contains (outcomes (condition_count g))) (λ o. length o ≡ condition_count g)
        (λ o within. length_of_outcome (condition_count g) o within) (outcomes (condition_count g))
        (All-contains_itself (outcomes (condition_count g)))))
        (AllPairs-filter ◌≢◌ (is_track g) (outcomes (condition_count g)) (outcomes_apart (condition_count g)));
  },
)

-- ---- if no condition rests on another, each outcome is a track

-- a test that all pass leaves out nothing
filter_all : {X : Type 0} (p : X → Bool) (xs : List X) → ((x : X) → p x ≡ true) → filter p xs ≡ xs
filter_all p [] all_pass = refl
filter_all p (x ∷ xs) all_pass = ap (λ b. cond b (x ∷ filter p xs) (filter p xs)) (all_pass x)
    ∙ ap (λ ys. x ∷ ys) (filter_all p xs all_pass)

-- a process without inputs is active in each outcome
pub first_active : (g : Graph) (o : List Bool) (n p : ℕ) → inputs g p ≡ [] →
    is_active (activation_within (suc n) g o p) ≡ true
first_active g o n p no_inputs = ap (λ es. is_active (activation_by (process_at g p).join es
    (λ e. is_active (activation_within n g o (source g e)) && takes (edge_at g e).when (value_of g o (source g e)))))
    no_inputs

-- given: no process of a condition has an input
module _ (g : Graph) (free : (c : ℕ) → c < condition_count g → inputs g (process_of g c) ≡ []) where
  -- each outcome is a track
  always_track : (o : List Bool) → is_track g o ≡ true
  always_track o =
      all_from (λ c. not (get_or o c false) || active g o (process_of g c)) (numbers_below (condition_count g))
      (λ c within. let inside = numbers-Contains (condition_count g) c within in
      or_right (not (get_or o c false)) (active g o (process_of g c)) (there c inside (process_count g) refl))
    where
      -- by the number of processes, which isn't 0 if there is a condition
      there : (c : ℕ) → c < condition_count g → (n : ℕ) → process_count g ≡ n →
          is_active (activation_within n g o (process_of g c)) ≡ true
      there c inside zero count_is = absurd (omega (arith, process_of_below g c inside))
      there c inside (suc n) count_is = first_active g o n (process_of g c) (free c inside)

  -- if no process of a condition has inputs, every outcome is a track
  pub count_of_free_tracks : (tracks : List (List Bool)) → AreTracks g tracks → length tracks ≡ 2 ^ condition_count g
  count_of_free_tracks tracks are =
      count_of_tracks g tracks are ∙ ap length (filter_all (is_track g) (outcomes (condition_count g)) always_track)
      ∙ length-outcomes (condition_count g)
