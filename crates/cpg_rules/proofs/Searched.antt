-- The search along an order finds the least scenario in which two inputs of a process are live, or there is none. In
-- the lemmas k is a place of the order, p the process that is searched for, q another one, c a condition, and v its
-- value.
use Rattle.std.proofs.Common.{ℕ, ◌+◌, ◌<◌, ◌≤◌, ◌≡◌, ◌≢◌, Bool, true, false, ◌==◌, if◌then◌else◌, List, [], ◌∷◌, ◌++◌}
use Rattle.std.proofs.Common.{length, get_or, map, filter, drop, take, replicate, sum, Option, Some, None}
use Rattle.std.proofs.Common.{Contains, arith, refl, sym, ap, ◌∙◌, subst, inl, inr, ◌⊎◌, eqb-true, get_or-set_other}
use Rattle.std.proofs.Common.{get_or-set_same}
use Rattle.std.specs.Bool.{nat_lt}
use Rattle.std.proofs.lemmas.Bool.{cases_lt, both_ways, eqb-false}
use Rattle.std.proofs.lemmas.List.{get_or-replicate, get_or_past, length-replicate, length-map, take-append-drop}
use Rattle.std.proofs.lemmas.List.Folds.{sum_by-replicate}
use Rattle.std.proofs.lemmas.List.Sums.{length-filter}
use Rattle.std.proofs.lemmas.List.FromFn.{length-range_with_len}
use Rattle.cpg_base.specs.declared.activation.Activation.{Activation}
use Rattle.cpg_base.specs.declared.activation.Activation.TheVariants.{Inactive, Plain, By}
use Rattle.cpg_base.specs.Numbers.{numbers_below, is_below}
use Rattle.cpg_base.specs.Graph.{Graph, process_count, condition_count, process_of, condition_of, inputs}
use Rattle.cpg_base.specs.Activity.{is_active, live}
use Rattle.cpg_base.specs.Scenario.{Scenario, IsScenario, fault_of, number_of_value, IsLeast, value_in_key, key}
use Rattle.cpg_base.specs.Scenario.{is_before}
use Rattle.cpg_base.proofs.Below.{not_below-cons, below-cons_less, below_one_way}
use Rattle.cpg_base.proofs.Items.{process_of_below}
use Rattle.cpg_base.proofs.Lists.{same_filter, get_or-map-below, Contains-first, Contains-rest}
use Rattle.cpg_base.proofs.Sums.{filter-map}
use Rattle.cpg_order.specs.Urgency.{IsTopological}
use Rattle.cpg_base.specs.Order.{place}
use Rattle.cpg_base.proofs.ConditionProcesses.{process_of_condition_of, condition_of_below}
use Rattle.cpg_base.proofs.ScenarioOrder.{not_before_by_parts}
use Rattle.cpg_rules.specs.Steps.{input_of, step_of}
use Rattle.cpg_rules.specs.Growing.{is_live_in, activation_in, settled, choice, standing}
use Rattle.cpg_rules.specs.Way.{Follows, AreSettled}
use Rattle.cpg_rules.specs.Alternatives.{has_two_live, are_two_live, first_some, if_other, found_from, is_set}
use Rattle.cpg_rules.specs.Alternatives.{scenario_of}
use Rattle.cpg_rules.proofs.Along.{rest_first, rest_more, rest_none, in_take}
use Rattle.cpg_rules.proofs.Standings.{is_live_edge, live_here, follows_one_way, follows_value, its_condition}
use Rattle.cpg_rules.proofs.Standings.{settled_next, place_differs}
use Rattle.cpg_rules.proofs.Start.{none_settled, all_follow}

-- ---- scenarios that first differ at a process

-- given: two scenarios of a graph, s and t
module _ (g : Graph) (s t : Scenario) where
  -- nowhere more in what a process gives to the key
  pub record IsNoMore (p : ℕ) : Type 0 where
    -- p has no more faults in s than in t
    pub faults : fault_of s p ≤ fault_of t p
    -- if p has a condition, this isn't true in s and false in t
    pub values : (c : ℕ) → condition_of g p ≡ Some c →
        number_of_value (get_or s.values c false) ≤ number_of_value (get_or t.values c false)

  -- if the value in s is no more than that in t, and the rest of the key of t is not below, the key of t is not below
  no_more_value : (o : Option ℕ) (xs ys : List ℕ) →
      ((c : ℕ) → o ≡ Some c → number_of_value (get_or s.values c false) ≤ number_of_value (get_or t.values c false)) →
      is_below xs ys ≡ false
      → is_below (value_in_key t.values o ++ xs) (value_in_key s.values o ++ ys) ≡ false
  no_more_value None xs ys h is_false = is_false
  no_more_value (Some c) xs ys h is_false = not_below-cons (number_of_value (get_or t.values c false))
      (number_of_value (get_or s.values c false)) xs ys (h c refl) is_false

  -- If the value is false in s and true in t, the key of t is not below that of s.
  -- At this condition the number in s is 0 and in t 1, so s is below.
  strictly : (o : Option ℕ) (c : ℕ) (xs ys : List ℕ) → o ≡ Some c → get_or s.values c false ≡ false →
      get_or t.values c false ≡ true
      → is_below (value_in_key t.values o ++ xs) (value_in_key s.values o ++ ys) ≡ false
  strictly None c xs ys is low high = cc
  strictly (Some d) c xs ys is low high =
      let same : d ≡ c = cc in
      let more : number_of_value (get_or s.values d false) < number_of_value (get_or t.values d false) =
      subst (λ x. number_of_value (get_or s.values x false) < number_of_value (get_or t.values x false)) (sym same)
      (subst (λ b. number_of_value b < number_of_value (get_or t.values c false)) (sym low)
      (subst (λ b. 0 < number_of_value b) (sym high) (omega arith))) in
      below_one_way (number_of_value (get_or s.values d false) ∷ ys) (number_of_value (get_or t.values d false) ∷ xs)
      (below-cons_less (number_of_value (get_or s.values d false))
      (number_of_value (get_or t.values d false)) ys xs more)

  -- if a true condition of the second is false in the first, and nothing before it is more, the second isn't before the
  -- first
  pub not_before_first : (ps qs : List ℕ) (q c : ℕ) → ((p : ℕ) → Contains ps p → IsNoMore p) →
      fault_of s q ≤ fault_of t q →
      condition_of g q ≡ Some c
      → get_or s.values c false ≡ false → get_or t.values c false ≡ true → is_before g (ps ++ q ∷ qs) t s ≡ false
  not_before_first [] qs q c fewer at_most is low high =
      not_below-cons (fault_of t q) (fault_of s q) (value_in_key t.values (condition_of g q) ++ key g qs t)
      (value_in_key s.values (condition_of g q) ++ key g qs s) at_most
      (strictly (condition_of g q) c (key g qs t) (key g qs s) is low high)
  not_before_first (p ∷ ps) qs q c fewer at_most is low high =
      let here = fewer p (Contains-first p ps) in
      not_below-cons (fault_of t p) (fault_of s p) (value_in_key t.values (condition_of g p) ++ key g (ps ++ q ∷ qs) t)
      (value_in_key s.values (condition_of g p) ++ key g (ps ++ q ∷ qs) s) here.faults
      (no_more_value (condition_of g p) (key g (ps ++ q ∷ qs) t) (key g (ps ++ q ∷ qs) s) here.values
      (not_before_first ps qs q c (λ x k. fewer x (Contains-rest p ps x k)) at_most is low high))

-- ---- the outcome of standings

-- given: a graph, an order of its processes, and standings s
module _ (g : Graph) (order : List ℕ) (s : List (Option Bool)) where
  -- the value of a condition in the scenario of standings is that of its process's standing
  value_in : (c : ℕ) → c < condition_count g →
      get_or (scenario_of g s).values c false ≡ is_set (get_or s (process_of g c) None)
  value_in c c_below = get_or-map-below (λ d. is_set (get_or s (process_of g d) None))
      (condition_count g) c false c_below

  -- The scenario that is made has no faults.
  -- Each number in the list is 0, and what is past its end counts as 0.
  no_faults : (p : ℕ) → fault_of (scenario_of g s) p ≡ 0
  no_faults p = get_or-zeros (process_count g) p
    where
      -- each entry of a list of zeros, and any entry beyond it, is 0
      get_or-zeros : (n i : ℕ) → get_or (replicate {A = ℕ} n 0) i 0 ≡ 0
      get_or-zeros n i = elim (cases_lt i n) [
        | inl less ↦ get_or-replicate n i 0 0 less
        | inr at_least ↦ get_or_past (replicate {A = ℕ} n 0) i 0 (omega (arith, length-replicate {A = ℕ} n 0))
      ]

  -- the values of a scenario that is made of standings follow these
  own_follows : (k : ℕ) → Follows g order k s (scenario_of g s).values
  own_follows k = record { takes = λ c l m v e. value_in c l ∙ ap is_set e }

  -- the scenario of standings is one of the graph
  pub scenario_lawful : IsScenario g (scenario_of g s)
  scenario_lawful = record {
    values = length-map (numbers_below (condition_count g)) (λ d. is_set (get_or s (process_of g d) None))
        ∙ length-range_with_len 0 (condition_count g);
    faults = length-replicate (process_count g) 0;
    budget = omega (arith, sum-zeros (process_count g));
  }
    where
      -- zeros add up to 0
      sum-zeros : (n : ℕ) → sum (replicate n 0) ≡ 0
      sum-zeros n = omega (arith, sum_by-replicate (λ (x : ℕ). x) n 0)

-- given: a topological order of a graph of at most 128 processes
module _ (g : Graph) (order : List ℕ) (topological : IsTopological g order) (few : process_count g ≤ 128) where
  -- no process from place k of the order on stands as active yet
  record IsFresh (k : ℕ) (s : List (Option Bool)) : Type 0 where
    -- no process at the place k or later has a standing
    unset : (q : ℕ) → q < process_count g → k ≤ place order q → get_or s q None ≡ None

  -- two inputs of the process at a place are live by the standings exactly if they are in the outcome
  two_live_here : (k : ℕ) (s : List (Option Bool)) → AreSettled g order k s → (o : List Bool) → Follows g order k s o →
      (p : ℕ) →
      place order p ≡ k
      → are_two_live s (step_of g p).inputs ≡ has_two_live g o p
  two_live_here k s are o follows p at = ap (nat_lt 1)
      (sym (length-filter (is_live_in s) (map (input_of g) (inputs g p)))
      ∙ ap length (filter-map (is_live_in s) (input_of g) (inputs g p)) ∙
      length-map (filter (is_live_edge g s) (inputs g p)) (input_of g)
      ∙ ap length (same_filter (is_live_edge g s) (live g o) (inputs g p)
      (λ e c. live_here g order topological k s are o follows p e at c)))

  -- No value of the outcome of standings is more than in an outcome that goes their way.
  -- A condition that is true by its standing is true in the outcome, since that follows the standings.
  no_more : (k : ℕ) (s u : List (Option Bool)) (t : Scenario) → Follows g order k s t.values → (p : ℕ) →
      place order p < k → get_or u p None ≡ get_or s p None →
      IsNoMore g (scenario_of g u) t p
  no_more k s u t follows p before_k same = record {
    faults = omega (arith, no_faults g order u p);
    values = λ c its.
        let of_it = process_of_condition_of g p c its in
        let within = condition_of_below g p c its in
        below c (value_in g order u c within ∙ ap (λ q. is_set (get_or u q None)) of_it ∙ ap is_set same)
        (get_or s p None) refl (λ v is. follows.takes c within (subst (λ q. place order q < k) (sym of_it) before_k) v
        (subst (λ q. get_or s q None ≡ Some v) (sym of_it) is));
  }
    where
      -- by the standing of the process: the scenario is true there only if the outcome has to be
      below : (c : ℕ) → get_or (scenario_of g u).values c false ≡ is_set (get_or s p None) → (x : Option Bool) →
          get_or s p None ≡ x
          → ((v : Bool) → get_or s p None ≡ Some v → get_or t.values c false ≡ v) →
          number_of_value (get_or (scenario_of g u).values c false) ≤ number_of_value (get_or t.values c false)
      below c by_standing None is standing_goes =
          let value_is : get_or (scenario_of g u).values c false ≡ false = by_standing ∙ ap is_set is in
          let number_is = ap number_of_value value_is in
          omega arith
      below c by_standing (Some v) is standing_goes =
          let value_is : get_or (scenario_of g u).values c false ≡ v = by_standing ∙ ap is_set is in
          let number_is = ap number_of_value (value_is ∙ sym (standing_goes v is)) in
          omega arith

  -- given: a process p of the graph
  module _ (p : ℕ) (within : p < process_count g) where
    -- the first standings at the process with two live inputs, of those that go on from others
    record IsFirstFrom (k : ℕ) (s found : List (Option Bool)) : Type 0 where
      -- the standings found are right up to p
      settled : AreSettled g order (place order p) found
      -- two inputs of p are live by them
      two : are_two_live found (step_of g p).inputs ≡ true
      -- they go on from s, whose standings they keep
      keeps : (q : ℕ) → q < process_count g → place order q < k → get_or found q None ≡ get_or s q None
      -- no scenario that follows s and makes two inputs live comes before theirs
      least : (t : Scenario) → Follows g order k s t.values → has_two_live g t.values p ≡ true →
          is_before g order t (scenario_of g found) ≡ false

    -- what an answer of the search means for the outcomes of this way: none makes two inputs live, or these standings are the
    -- first that do
    abbrev Answers : ℕ → List (Option Bool) → Option (List (Option Bool)) → Type 0
    Answers k s None = (o : List Bool) → Follows g order k s o → has_two_live g o p ≡ false
    Answers k s (Some found) = IsFirstFrom k s found

    -- At the process itself the search answers by its inputs.
    -- If two are live by the standings, they are so in each outcome of this way, and the standings themselves are the least.
    at_process : (k : ℕ) (s : List (Option Bool)) → AreSettled g order k s → IsFresh k s → place order p ≡ k →
        Answers k s (if are_two_live s (step_of g p).inputs then Some s else None)
    at_process k s are fresh at = go (are_two_live s (step_of g p).inputs) refl
      where
        -- by whether two inputs are live by these standings
        go : (b : Bool) → are_two_live s (step_of g p).inputs ≡ b → Answers k s (if b then Some s else None)
        go false is = λ o follows. sym (two_live_here k s are o follows p at) ∙ is
        go true is = record {
          settled = subst (λ n. AreSettled g order n s) (sym at) are;
          two = is;
          keeps = λ q before_k r_before. refl;
          least = λ t follows two. not_before_by_parts g (scenario_of g s) t order
              (λ q. omega (arith, no_faults g order s q))
              (λ q c its. each t follows q c its (cases_lt (place order q) k));
        }
          where
            -- by whether the condition's process comes before place k: if so both follow s, and if not it is false here
            each : (t : Scenario) → Follows g order k s t.values → (q c : ℕ) → condition_of g q ≡ Some c →
                (place order q < k) ⊎ (k ≤ place order q)
                → number_of_value (get_or (scenario_of g s).values c false) ≤ number_of_value (get_or t.values c false)
            each t follows q c its (inl before_k) = (no_more k s s t follows q before_k refl).values c its
            each t follows q c its (inr before_k) =
                let of_it = process_of_condition_of g q c its in
                let inside = condition_of_below g q c its in
                let unset_is_false : get_or (scenario_of g s).values c false ≡ false = value_in g order s c inside ∙
                ap is_set (fresh.unset (process_of g c) (process_of_below g c inside)
                (subst (λ x. k ≤ place order x) (sym of_it) before_k)) in
                let number_is = ap number_of_value unset_is_false in omega arith

    -- given: the standings of the processes before a place, and another process than p at the place
    module _ (k q : ℕ) (qs : List ℕ) (s : List (Option Bool)) (are : AreSettled g order k s) (h : q < process_count g)
        (at : place order q ≡ k) (other : q ≢ p)
        (rest : drop k order ≡ q ∷ qs) where
      -- the standings after the process, with either value
      abbrev off : List (Option Bool)
      off = settled s (step_of g q) false

      -- the standings if the process's condition is true
      abbrev on : List (Option Bool)
      on = settled s (step_of g q) true

      -- how the process is active
      abbrev here : Activation
      here = activation_in s (step_of g q)

      -- a search from here on keeps the standings of earlier processes
      kept : (v : Bool) (found : List (Option Bool)) → IsFirstFrom (k + 1) (settled s (step_of g q) v) found → (r : ℕ) →
          r < process_count g → place order r < k →
          get_or found r None ≡ get_or s r None
      kept v found first r r_below before_k = first.keeps r r_below (omega arith)
          ∙ get_or-set_other s q r (standing here v) None (λ same. let one_place = ap (place order) same in omega arith)

      -- the order is the processes before this one, it, and those behind
      whole : order ≡ take k order ++ q ∷ qs
      whole = sym (take-append-drop k order) ∙ ap (λ xs. take k order ++ xs) rest

      -- what stands among the first k of the order is a process of the graph with a place before k
      before_here : (r : ℕ) → Contains (take k order) r → (r < process_count g) × (place order r < k)
      before_here r among = in_take g order topological k r among

      -- If only one way is taken, the search answers as it does after it.
      -- Without a choice each outcome of this way goes on with false.
      one : choice here (condition_of g q) ≡ None → (x : Option (List (Option Bool))) → Answers (k + 1) off x →
          Answers k s (first_some x None)
      one none None a = λ o f. a o (follows_one_way g order topological k s are q h few at false none o f)
      one none (Some found) first = record {
        settled = first.settled;
        two = first.two;
        keeps = kept false found first;
        least = λ t f. first.least t (follows_one_way g order topological k s are q h few at false none t.values f);
      }

      -- given: the process has a condition c to choose, so both ways are searched
      module _ (c : ℕ) (some : choice here (condition_of g q) ≡ Some c) where
        -- the condition is the process's
        its : condition_of g q ≡ Some c
        its = its_condition g order topological k s are q h few at true c some

        -- the process is active
        active_here : is_active here ≡ true
        active_here = go here some
          where
            -- by how the process is active: an inactive one has no choice
            go : (a : Activation) → choice a (condition_of g q) ≡ Some c → is_active a ≡ true
            go Inactive is = cc
            go Plain is = refl
            go (By i) is = refl

        -- with the value false its standing says so
        stands : get_or off q None ≡ Some false
        stands = get_or-set_same s q (standing here false) None (omega (arith, are.long))
            ∙ ap (λ b. if b then Some false else None) active_here

        -- A scenario that follows and makes two inputs live has the value true if the search with false finds none.
        -- With the value false it is no earlier than what was found. With true it comes later, since what was found has false.
        least_off : (found : List (Option Bool)) → IsFirstFrom (k + 1) off found → (t : Scenario) →
            Follows g order k s t.values → has_two_live g t.values p ≡ true → (v : Bool) →
            get_or t.values c false ≡ v
            → is_before g order t (scenario_of g found) ≡ false
        least_off found first t follows two false value_is =
            first.least t (follows_value g order topological k s are q h few at false c some t.values value_is follows)
            two
        least_off found first t follows two true value_is =
            let low : get_or (scenario_of g found).values c false ≡ false =
            value_in g order found c (condition_of_below g q c its)
            ∙ ap (λ r. is_set (get_or found r None)) (process_of_condition_of g q c its)
            ∙ ap is_set (first.keeps q h (omega arith) ∙ stands) in
            subst (λ xs. is_before g xs t (scenario_of g found) ≡ false) (sym whole)
            (not_before_first g (scenario_of g found) t (take k order) qs q c
            (λ earlier among.
            let stands_before = before_here earlier among in
            no_more k s found t follows earlier stands_before.1
            (kept false found first earlier stands_before.0 stands_before.1))
            (omega (arith, no_faults g order found q)) its low value_is)

        -- The answers of both values together are the answer, if the condition may be chosen.
        -- Nothing found with either value: no outcome of this way has two. Something found with false is the least; otherwise what
        -- is found with true is.
        both : (x y : Option (List (Option Bool))) → Answers (k + 1) off x → Answers (k + 1) on y →
            Answers k s (first_some x y)
        both None None a b = λ o f. go o f (get_or o c false) refl
          where
            -- by the value of the condition in the outcome: each way was searched in vain
            go : (o : List Bool) → Follows g order k s o → (v : Bool) → get_or o c false ≡ v →
                has_two_live g o p ≡ false
            go o follows false is = a o (follows_value g order topological k s are q h few at false c some o is follows)
            go o follows true is = b o (follows_value g order topological k s are q h few at true c some o is follows)
        both None (Some found) a first = record {
          settled = first.settled;
          two = first.two;
          keeps = kept true found first;
          least = λ t f two. go t f two (get_or t.values c false) refl;
        }
          where
            -- by the value of the condition: with false the first search found the least, and true comes later anyway
            go : (t : Scenario) → Follows g order k s t.values → has_two_live g t.values p ≡ true → (v : Bool) →
                get_or t.values c false ≡ v →
                is_before g order t (scenario_of g found) ≡ false
            go t follows two false is = absurd (both_ways (has_two_live g t.values p)
                (a t.values (follows_value g order topological k s are q h few at false c some t.values is follows))
                two)
            go t follows two true is =
                first.least t (follows_value g order topological k s are q h few at true c some t.values is follows) two
        both (Some found) y first b = record {
          settled = first.settled;
          two = first.two;
          keeps = kept false found first;
          least = λ t f two. least_off found first t f two (get_or t.values c false) refl;
        }

      -- the answers of both values together are the answer, whether the condition may be chosen or not
      either : (x y : Option (List (Option Bool))) → Answers (k + 1) off x → Answers (k + 1) on y →
          Answers k s (first_some x (if_other (choice here (condition_of g q)) y))
      either x y a b = go (choice here (condition_of g q)) refl
        where
          -- by whether the process has a condition to choose
          go : (z : Option ℕ) → choice here (condition_of g q) ≡ z → Answers k s (first_some x (if_other z y))
          go None is = one is x a
          go (Some c) is = both c is x y a b

    -- nothing stands from the next place on after the process at this place is settled
    fresh_next : (k q : ℕ) (s : List (Option Bool)) (v : Bool) → place order q ≡ k → IsFresh k s →
        IsFresh (k + 1) (settled s (step_of g q) v)
    fresh_next k q s v at fresh = record {
      unset = λ r r_below from_next. get_or-set_other s q r (standing (activation_in s (step_of g q)) v) None
          (λ same. let one_place = ap (place order) same in omega arith) ∙ fresh.unset r r_below (omega arith);
    }

    -- The search along the rest of the order answers for all outcomes that follow the standings.
    -- By induction on the rest of the order: the next process is p itself, or splits the search, or goes one way.
    searched : (qs : List ℕ) (k : ℕ) (s : List (Option Bool)) → drop k order ≡ qs → AreSettled g order k s →
        IsFresh k s → k ≤ place order p →
        Answers k s (found_from p (map (step_of g) qs) s)
    searched [] k s rest_is are fresh later =
        absurd (let stands_before = rest_none g order topological k rest_is p within in omega arith)
    searched (q ∷ qs) k s rest_is are fresh later =
        let first_there = rest_first g order topological k q qs rest_is in
        let rest_after = rest_more g order topological k q qs rest_is in
        go (q == p) refl first_there.0 first_there.1
        (λ p_later. searched qs (k + 1) (settled s (step_of g q) false) rest_after
        (settled_next g order topological k s are q first_there.0 few first_there.1 false)
        (fresh_next k q s false first_there.1 fresh) p_later)
        (λ p_later. searched qs (k + 1) (settled s (step_of g q) true) rest_after
        (settled_next g order topological k s are q first_there.0 few first_there.1 true)
        (fresh_next k q s true first_there.1 fresh) p_later)
      where
        -- by whether the next process in the order is p
        go : (b : Bool) → (q == p) ≡ b → q < process_count g → place order q ≡ k
            → (k + 1 ≤ place order p → Answers (k + 1) (settled s (step_of g q) false)
            (found_from p (map (step_of g) qs) (settled s (step_of g q) false)))
            → (k + 1 ≤ place order p → Answers (k + 1) (settled s (step_of g q) true)
            (found_from p (map (step_of g) qs) (settled s (step_of g q) true)))
            → Answers k s (if b then (if are_two_live s (step_of g q).inputs then Some s else None)
            else first_some (found_from p (map (step_of g) qs) (settled s (step_of g q) false))
            (if_other (choice (activation_in s (step_of g q)) (condition_of g q))
            (found_from p (map (step_of g) qs) (settled s (step_of g q) true))))
        go true is q_below at low high =
            let same = eqb-true q p is in
            subst (λ x. Answers k s (if are_two_live s (step_of g x).inputs then Some s else None)) (sym same)
            (at_process k s are fresh (sym (ap (place order) same) ∙ at))
        go false is q_below at low high =
            let differ = eqb-false q p is in
            let past : k + 1 ≤ place order p =
            let places_differ = place_differs g order topological q p q_below within differ in omega arith in
            either k q qs s are q_below at differ rest_is (found_from p (map (step_of g) qs)
            (settled s (step_of g q) false))
            (found_from p (map (step_of g) qs) (settled s (step_of g q) true)) (low past) (high past)

    -- ---- from the start

    -- at the start no standing is chosen
    abbrev start : List (Option Bool)
    start = replicate 128 None

    -- at the start no process has a standing
    start_fresh : IsFresh 0 start
    start_fresh = record { unset = λ q l m. get_or-replicate {A = Option Bool} 128 q None None (omega arith) }

    -- if the search finds nothing, no outcome makes two inputs of the process live
    pub search_none : found_from p (map (step_of g) order) start ≡ None → (o : List Bool) → has_two_live g o p ≡ false
    search_none none_found o = (let nothing : Answers 0 start None = subst (Answers 0 start) none_found
        (searched order 0 start refl (none_settled g order topological few) start_fresh (omega arith)) in nothing) o
        (all_follow g order topological few start o)

    -- if it finds standings, they give the least scenario in which two inputs of the process are live
    pub search_some : (found : List (Option Bool)) → found_from p (map (step_of g) order) start ≡ Some found →
        IsLeast g order (λ t. has_two_live g t.values p ≡ true) (scenario_of g found)
    search_some found is =
        let first : IsFirstFrom 0 start found = subst (Answers 0 start) is
        (searched order 0 start refl (none_settled g order topological few) start_fresh (omega arith)) in
        record {
          lawful = scenario_lawful g order found;
          holds = sym (two_live_here (place order p) found first.settled (scenario_of g found).values
              (own_follows g order found (place order p)) p refl) ∙ first.two;
          least = λ t i two. first.least t (all_follow g order topological few start t.values) two;
        }
