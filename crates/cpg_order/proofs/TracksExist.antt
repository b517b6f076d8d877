-- Choosing the conditions in the urgency order lists the tracks in order.
use Rattle.std.proofs.Common.{ℕ, ◌<◌, ◌≡◌, ◌≢◌, Bool, true, false, not, cond, ◌&&◌, IsTrue, List, [], ◌∷◌, length}
use Rattle.std.proofs.Common.{get_or, set, filter, Contains, arith, sym, ap, ◌∙◌, subst, ⊎_elim}
use Rattle.std.specs.List.{AllPairs}
use Rattle.std.proofs.lemmas.Bool.{and_parts, and_from, both_ways, not-true, not_from_false}
use Rattle.std.proofs.lemmas.List.{length-replicate, get_or-replicate, length-set, get_or-set_same, get_or-set_other}
use Rattle.std.proofs.lemmas.List.Elements.{Contains-append_cases}
use Rattle.std.proofs.lemmas.List.Kept.{AllPairs-filter}
use Rattle.cpg_base.specs.Numbers.{numbers_below}
use Rattle.cpg_base.specs.Graph.{Graph, condition_count, process_of}
use Rattle.cpg_base.proofs.Lists.{Contains-first, Contains-rest, Contains-cases, Contains-nil, Contains-numbers}
use Rattle.cpg_base.proofs.Lists.{numbers-Contains, list_any_parts, list_any_true, Contains-filter_parts}
use Rattle.cpg_base.proofs.Lists.{Contains-filter}
use Rattle.cpg_base.proofs.Items.{process_of_below}
use Rattle.cpg_base.proofs.Pairs.{AllPairs-nil, AllPairs-first, AllPairs-rest, AllPairs-cons_by, AllPairs-append}
use Rattle.cpg_base.proofs.Pairs.{permutation_of_same}
use Rattle.cpg_order.specs.Urgency.{is_more_urgent, IsUrgencyOrder, IsTopological}
use Rattle.cpg_base.specs.Order.{place}
use Rattle.cpg_order.specs.Deciding.{outcomes, agree_on, earlier_conditions}
use Rattle.cpg_order.specs.Counting.{is_value_free, conditions_along, all_false, chosen, all_values, tracks_along}
use Rattle.cpg_order.proofs.Outcomes.{agree_from, Contains-outcomes, length_of_outcome}
use Rattle.cpg_order.proofs.UrgencyIsTopological.{urgent_first}
use Rattle.cpg_order.proofs.Along.{from_along, conditions_rise}
use Rattle.cpg_order.proofs.ScenariosApart.{outcomes_apart}
use Rattle.cpg_order.proofs.QuietOutcomes.{from_quiet_outcomes, Contains-quiet_outcomes, quiet_is_track}
use Rattle.cpg_order.specs.Track.{is_track, is_outcome_before, AreTracks}

module _ (g : Graph) where
  -- an outcome that is chosen from o agrees with it on all conditions but those that were left to choose
  agree_chosen : (reached cs : List ℕ) (o q : List Bool) → Contains (chosen g reached cs o) q → (d : ℕ) →
      (Contains cs d → ⊥) →
      get_or o d false ≡ get_or q d false
  agree_chosen reached [] o q is_chosen d not_left = ⊎_elim (λ (same : o ≡ q). ap (λ r. get_or r d false) same)
      (λ (nothing : Contains [] q). absurd (Contains-nil q nothing)) (Contains-cases o [] q is_chosen)
  agree_chosen reached (c ∷ cs) o q is_chosen d not_left = ⊎_elim
      (λ (with_false : Contains (chosen g reached cs o) q). agree_chosen reached cs o q with_false d
      (λ in_rest. not_left (Contains-rest c cs d in_rest)))
      (λ (with_true : Contains (cond (is_value_free g reached o c) (chosen g reached cs (set o c true)) []) q).
      second (is_value_free g reached o c) with_true
      (λ listed. agree_chosen reached cs (set o c true) q listed d
      (λ in_rest. not_left (Contains-rest c cs d in_rest))))
      (Contains-append_cases (chosen g reached cs o)
      (cond (is_value_free g reached o c) (chosen g reached cs (set o c true)) []) q is_chosen)
    where
      -- by whether the condition may be true: only then are there outcomes with it
      second : (b : Bool) → Contains (cond b (chosen g reached cs (set o c true)) []) q →
          (Contains (chosen g reached cs (set o c true)) q → get_or (set o c true) d false ≡ get_or q d false) →
          get_or o d false ≡ get_or q d false
      second true listed agree =
          sym (get_or-set_other o c d true false
          (λ is_c. not_left (subst (Contains (c ∷ cs)) (sym is_c) (Contains-first c cs))))
          ∙ agree listed
      second false listed agree = absurd (Contains-nil q listed)

  -- the first outcome comes before the second
  abbrev Before : List Bool → List Bool → Type 0
  Before o q = IsTrue (is_outcome_before g o q)

  -- no outcome is before itself, as c would have to be both false and true in it
  before_itself : (o : List Bool) → Before o o → ⊥
  before_itself o before =
      let found = list_any_parts (λ c. not (get_or o c false) && get_or o c false
      && agree_on (earlier_conditions g c) o o)
      (numbers_below (condition_count g)) before in
      let parts =
      and_parts (not (get_or o found.0 false) && get_or o found.0 false)
      (agree_on (earlier_conditions g found.0) o o) found.2 in
      let values = and_parts (not (get_or o found.0 false)) (get_or o found.0 false) parts.0 in
      both_ways (get_or o found.0 false) (not-true (get_or o found.0 false) values.0) values.1

  -- given: an urgency order of the graph, and the variables that are reached
  module _ (order : List ℕ) (urgency : IsUrgencyOrder g order) (reached : List ℕ) where
    -- the place of a condition's process in the order
    abbrev at : ℕ → ℕ
    at c = place order (process_of g c)

    -- An outcome that is false at c comes before one that is true at c, if both agree on the earlier conditions.
    -- c is the condition that the test asks for.
    false_first : (c : ℕ) (q r : List Bool) → c < condition_count g → get_or q c false ≡ false →
        get_or r c false ≡ true → ((e : ℕ) → at e < at c → get_or q e false ≡ get_or r e false) → Before q r
    false_first c q r c_inside q_false r_true agree =
        list_any_true (λ c. not (get_or q c false) && get_or r c false && agree_on (earlier_conditions g c) q r)
        (numbers_below (condition_count g)) c
        (Contains-numbers (condition_count g) c c_inside)
        (and_from _ _ (and_from _ _ (not_from_false (get_or q c false) q_false) r_true)
        (agree_from (earlier_conditions g c) q r (λ e listed.
        let parts = Contains-filter_parts (λ (d : ℕ). is_more_urgent g (process_of g d) (process_of g c))
        (numbers_below (condition_count g)) e listed in
        let e_inside = numbers-Contains (condition_count g) e parts.0 in
        agree e (urgent_first g order urgency (process_of g e) (process_of g c) (process_of_below g e e_inside)
        (process_of_below g c c_inside) parts.1))))

    -- the outcomes that are chosen along rising conditions are in order
    chosen_in_order : (cs : List ℕ) (o : List Bool) → length o ≡ condition_count g →
        ((c : ℕ) → Contains cs c → c < condition_count g) →
        ((c : ℕ) → Contains cs c → get_or o c false ≡ false) →
        AllPairs (λ c d. at c < at d) cs → AllPairs Before (chosen g reached cs o)
    chosen_in_order [] o size inside unset rise =
        AllPairs-cons_by Before o [] (λ q nothing. absurd (Contains-nil q nothing)) (AllPairs-nil Before)
    chosen_in_order (c ∷ cs) o size inside unset rise =
        let c_inside = inside c (Contains-first c cs) in
        let after = λ (d : ℕ) (in_rest : Contains cs d). AllPairs-first (λ x y. at x < at y) c cs rise d in_rest in
        let apart = λ (in_rest : Contains cs c). let itself = after c in_rest in
        let impossible : ⊥ = omega arith in impossible in
        let earlier =
        λ (e : ℕ) (sooner : at e < at c) (in_rest : Contains cs e). let later = after e in_rest in
        let impossible : ⊥ = omega arith in impossible in
        -- the outcomes with the condition true are in order
        let second =
        chosen_in_order cs (set o c true) (length-set o c true ∙ size)
        (λ d in_rest. inside d (Contains-rest c cs d in_rest))
        (λ d in_rest. get_or-set_other o c d true false (λ is_c. apart (subst (Contains cs) is_c in_rest))
        ∙ unset d (Contains-rest c cs d in_rest)) (AllPairs-rest (λ x y. at x < at y) c cs rise) in
        -- those with it false come first, and are in order
        AllPairs-append Before (chosen g reached cs o)
        (cond (is_value_free g reached o c) (chosen g reached cs (set o c true)) [])
        (chosen_in_order cs o size (λ d in_rest. inside d (Contains-rest c cs d in_rest))
        (λ d in_rest. unset d (Contains-rest c cs d in_rest))
        (AllPairs-rest (λ x y. at x < at y) c cs rise))
        (if_free (is_value_free g reached o c) second)
        (λ q r with_false in_second. in_free (is_value_free g reached o c) r in_second
        (λ with_true. false_first c q r c_inside
        (sym (agree_chosen reached cs o q with_false c apart) ∙ unset c (Contains-first c cs))
        (sym (agree_chosen reached cs (set o c true) r with_true c apart)
        ∙ get_or-set_same o c true false (omega arith))
        (λ e sooner. sym (agree_chosen reached cs o q with_false e (earlier e sooner))
        ∙ sym (get_or-set_other o c e true false (λ is_c. let equal = ap at is_c in omega arith)) ∙
        agree_chosen reached cs (set o c true) r with_true e (earlier e sooner))))
      where
        -- by whether the condition may be true: only then are there outcomes with it
        if_free : (b : Bool) → AllPairs Before (chosen g reached cs (set o c true)) →
            AllPairs Before (cond b (chosen g reached cs (set o c true)) [])
        if_free true rising = rising
        if_free false rising = AllPairs-nil Before

        -- an outcome with the value true is listed only if the condition is free
        in_free : {P : Type 0} (b : Bool) (r : List Bool) →
            Contains (cond b (chosen g reached cs (set o c true)) []) r →
            (Contains (chosen g reached cs (set o c true)) r → P) → P
        in_free true r listed claim = claim listed
        in_free false r listed claim = absurd (Contains-nil r listed)

  -- ---- the tracks

  -- The outcomes chosen along an urgency order that is topological are the tracks, in order.
  -- The chosen outcomes are the quiet ones with every value in reach, which are the tracks. Each differs from the others,
  -- since it comes before or after them.
  pub tracks_are : (order : List ℕ) → IsUrgencyOrder g order → IsTopological g order →
      AreTracks g (tracks_along g order)
  tracks_are order urgency topological =
      let in_order = chosen_in_order order urgency (all_values g) (conditions_along g order) (all_false g)
      (length-replicate (condition_count g) false) (λ c listed. (from_along g order c listed).0)
      (λ c listed. get_or-replicate (condition_count g) c false false (from_along g order c listed).0)
      (conditions_rise g order topological) in
      record {
        all = permutation_of_same (filter (is_track g) (outcomes (condition_count g))) (tracks_along g order)
            (AllPairs-filter (λ a b. a ≢ b) (is_track g) (outcomes (condition_count g))
            (outcomes_apart (condition_count g)))
            (λ i j d i_before_j j_inside equal. before_itself (get_or (tracks_along g order) i d)
            (subst (λ q. Before (get_or (tracks_along g order) i d) q) (sym equal)
            (in_order i j d i_before_j j_inside)))
            (λ o within. let parts = Contains-filter_parts (is_track g) (outcomes (condition_count g)) o within in
            Contains-quiet_outcomes g order topological (all_values g) o
            (length_of_outcome (condition_count g) o parts.0)
            (quiet_is_track g o ∙ parts.1))
            (λ o is_chosen. let parts = from_quiet_outcomes g order topological (all_values g) o is_chosen in
            Contains-filter (is_track g) (outcomes (condition_count g)) o (sym (quiet_is_track g o) ∙ parts.1)
            (Contains-outcomes (condition_count g) o parts.0));
        in_order = in_order;
      }
