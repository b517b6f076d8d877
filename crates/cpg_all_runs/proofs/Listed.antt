-- Which scenarios the lists of `Listing` have: those with faults or true values below a number, each once.
use Rattle.std.proofs.Common.{length, ◌≡◌, ◌∙◌, ℕ, zero, suc, ◌+◌, ◌-◌, ◌≢◌, ◌<◌, ◌≤◌, Bool, true, false, List, [], ◌∷◌}
use Rattle.std.proofs.Common.{◌++◌, map, get_or, set, sum, replicate, All, Contains, arith, refl, sym, ap}
use Rattle.std.proofs.Common.{ap₂, subst, inl, inr, length-set, add-one}
use Rattle.std.proofs.lemmas.Bool.{cases_eq, cases_lt, cases_Bool, both_ways}
use Rattle.std.proofs.lemmas.List.{append_assoc, get_or-replicate, length-replicate, get_or_past, get_or-set_same}
use Rattle.std.proofs.lemmas.List.{get_or-set_other, set-get_or, ext_get_or, map-append}
use Rattle.std.proofs.lemmas.List.Elements.{Contains-get_or}
use Rattle.std.proofs.lemmas.List.Sums.{sum_by-set}
use Rattle.std.specs.List.{flat_map, AllPairs}
use Rattle.cpg_base.specs.Numbers.{numbers_below}
use Rattle.cpg_base.specs.Graph.{Graph, process_count, condition_count}
use Rattle.cpg_base.specs.Scenario.{Scenario, IsScenario, zero_scenario, fault_of}
use Rattle.cpg_base.proofs.Lists.{Contains-first, Contains-rest, Contains-nil, Contains-cases, Contains-map}
use Rattle.cpg_base.proofs.Lists.{Contains-map_parts, Contains-flat_map, Contains-flat_map_parts, Contains-numbers}
use Rattle.cpg_base.proofs.Lists.{numbers-Contains, below_push}
use Rattle.cpg_base.proofs.Pairs.{AllPairs-nil, AllPairs-cons_by, AllPairs-map, AllPairs-flat_map_in, numbers_apart}
pub use Rattle.cpg_run.proofs.ZeroScenario.{zero_lawful}
use Rattle.cpg_all_runs.specs.Listing.{AreScenarios, HasValue, with_fault, with_true, with_each_fault, with_both}
use Rattle.cpg_all_runs.specs.Listing.{with_faults_below, with_values_below}

-- the step of a loop that adds f of each number to `start`: if `xs` has f of the first n, `ys`, with f of n too, has f
-- of the first n + 1
pub appended_push : {X : Type 0} (f : ℕ → X) (start xs ys : List X) (y : X) (n : ℕ) →
    xs ≡ start ++ map f (numbers_below n) → y ≡ f n →
    ys ≡ xs ++ y ∷ [] →
    ys ≡ start ++ map f (numbers_below (n + 1))
appended_push f start xs ys y n is_xs is_y is_ys =
    is_ys ∙ ap₂ (λ zs z. zs ++ z ∷ []) is_xs is_y ∙ append_assoc start (map f (numbers_below n)) (f n ∷ [])
    ∙ ap (λ zs. start ++ zs) (sym (ap (map f) (below_push n) ∙ map-append f (numbers_below n) (n ∷ [])))

-- of two elements set at one place the second stays: by induction on the list
set_twice : {X : Type 0} (xs : List X) (i : ℕ) (y z d : X) → set (set xs i y) i z ≡ set xs i z
set_twice [] zero y z d = refl
set_twice [] (suc i) y z d = refl
set_twice (x ∷ xs) zero y z d = refl
set_twice (x ∷ xs) (suc i) y z d = ap (λ ys. x ∷ ys) (set_twice xs i y z d)

-- scenarios with the same values and counts are the same
same : (s t : Scenario) → s.values ≡ t.values → s.faults ≡ t.faults → s ≡ t
same s t same_values same_faults =
    ap₂ (λ vs fs. let r : Scenario = record { values = vs; faults = fs } in r) same_values same_faults

module _ (g : Graph) where
  -- no faults from the process p on, and every value false
  pub record HasFaultsBelow (p : ℕ) (s : Scenario) : Type 0 where
    pub lawful : IsScenario g s
    -- a process from p on has no faults
    pub later : (q : ℕ) → p ≤ q → fault_of s q ≡ 0
    -- every value is false
    pub quiet : s.values ≡ replicate (condition_count g) false

  -- in the scenario without faults no process has one
  no_fault : (q : ℕ) → fault_of (zero_scenario g) q ≡ 0
  no_fault q = elim (cases_lt q (process_count g)) [
    | inl below ↦ get_or-replicate (process_count g) q 0 0 below
    | inr not_less ↦
        get_or_past (replicate (process_count g) 0) q 0 (omega (arith, length-replicate {A = ℕ} (process_count g) 0))
  ]

  -- a scenario with another fault count of a process is one of the graph, if all its faults together are at most the
  -- graph's
  faults_changed : (p f : ℕ) (s : Scenario) → p < process_count g → IsScenario g s →
      sum s.faults + f ≤ g.faults + fault_of s p →
      IsScenario g (with_fault p s f)
  faults_changed p f s within is fits = record {
    values = is.values;
    faults = length-set s.faults p f ∙ is.faults;
    budget = let changed = sum_by-set (λ (x : ℕ). x) s.faults p f 0 (omega (arith, is.faults)) in omega arith;
  }

  -- Each scenario of the list has no faults from the process p on, and every value false.
  -- By induction on p: a scenario of the list comes from one with no fault of p, by a count that the budget allows.
  pub faults_listed : (p : ℕ) → p ≤ process_count g → (s : Scenario) → Contains (with_faults_below g p) s →
      HasFaultsBelow p s
  unfolding with_faults_below
  faults_listed zero within s listed = elim (Contains-cases (zero_scenario g) [] s listed) [
    | inl is_zero ↦ subst (HasFaultsBelow 0) is_zero
        (record { lawful = zero_lawful g; later = λ q from. no_fault q; quiet = refl })
    | inr in_none ↦ absurd (Contains-nil s in_none)
  ]
  faults_listed (suc p) within s listed =
      -- the scenario without a fault of p from which it comes (`source`), and the count that p gets
      let source = Contains-flat_map_parts (with_each_fault g p) (with_faults_below g p) s listed in
      let count = Contains-map_parts (with_fault p source.0) (numbers_below (g.faults - sum source.0.faults + 1)) s
      source.2 in
      let of_source = faults_listed p (omega arith) source.0 source.1 in
      let count_fits = numbers-Contains (g.faults - sum source.0.faults + 1) count.0 count.1 in
      let budget = of_source.lawful.budget in
      subst (HasFaultsBelow (suc p)) count.2 (record {
        lawful = faults_changed p count.0 source.0 (omega arith) of_source.lawful (omega arith);
        later = λ q from. get_or-set_other source.0.faults p q count.0 0 (omega arith)
            ∙ of_source.later q (omega arith);
        quiet = of_source.quiet;
      })

  -- Each scenario without faults from p on, and with every value false, is in the list.
  -- By induction on p: the scenario without the faults of p is in the list before, and its count brings it back.
  pub lists_faults : (p : ℕ) → p ≤ process_count g → (s : Scenario) → HasFaultsBelow p s →
      Contains (with_faults_below g p) s
  unfolding with_faults_below
  lists_faults zero within s below =
      -- the first list has only the scenario without faults
      let long = below.lawful.faults in
      subst (Contains (zero_scenario g ∷ [])) (same (zero_scenario g) s (sym below.quiet)
      (ext_get_or 0 (replicate (process_count g) 0) s.faults (length-replicate {A = ℕ} (process_count g) 0 ∙ sym long)
      (λ q from. no_fault q ∙ sym (below.later q (omega arith)))))
      (Contains-first (zero_scenario g) [])
  lists_faults (suc p) within s below =
      let long = below.lawful.faults in
      let budget = below.lawful.budget in
      let cleared = sum_by-set (λ (x : ℕ). x) s.faults p 0 0 (omega arith) in
      -- without the faults of p, and with them again
      let without = with_fault p s 0 in
      let back : with_fault p without (fault_of s p) ≡ s = same (with_fault p without (fault_of s p)) s refl
      (set_twice s.faults p 0 (fault_of s p) 0 ∙ set-get_or s.faults p 0) in
      -- the former is in the list before
      Contains-flat_map (with_each_fault g p) (with_faults_below g p) without s
      (lists_faults p (omega arith) without (record {
        lawful = faults_changed p 0 s (omega arith) below.lawful (omega arith);
        later = λ q from. elim (cases_eq q p) [
          | inl at ↦ ap (λ j. get_or (set s.faults p 0) j 0) at ∙ get_or-set_same s.faults p 0 0 (omega arith)
          | inr apart ↦ get_or-set_other s.faults p q 0 0 apart ∙ below.later q (omega arith)
        ];
        quiet = below.quiet;
      }))
      -- so the scenario is among those that the list makes of it
      (subst (Contains (with_each_fault g p without)) back
      (Contains-map (with_fault p without) (numbers_below (g.faults - sum without.faults + 1)) (fault_of s p)
      (Contains-numbers _ (fault_of s p) (omega arith))))

  -- every value false from the condition c on
  pub record HasValuesBelow (c : ℕ) (s : Scenario) : Type 0 where
    pub lawful : IsScenario g s
    -- a condition from c on is false
    pub later : (d : ℕ) → c ≤ d → get_or s.values d false ≡ false

  -- without true values each value is false
  all_quiet : (d : ℕ) → get_or (replicate (condition_count g) false) d false ≡ false
  all_quiet d = elim (cases_lt d (condition_count g)) [
    | inl inside ↦ get_or-replicate (condition_count g) d false false inside
    | inr not_less ↦ get_or_past (replicate (condition_count g) false) d false
        (omega (arith, length-replicate (condition_count g) false))
  ]

  -- a scenario with another value of a condition is one of the graph
  value_changed : (c : ℕ) (v : Bool) (s : Scenario) → IsScenario g s →
      IsScenario g (record s { values = set s.values c v })
  value_changed c v s is =
      record { values = length-set s.values c v ∙ is.values; faults = is.faults; budget = is.budget }

  -- Each scenario of the list has every value false from the condition c on.
  -- By induction on c: a scenario of the list comes from one with the value of c false, as it is or with true.
  pub values_listed : (c : ℕ) → (s : Scenario) → Contains (with_values_below g c) s → HasValuesBelow c s
  unfolding with_values_below
  values_listed zero s listed =
      let faults_below = faults_listed (process_count g) (omega arith) s listed in
      record {
        lawful = faults_below.lawful;
        later = λ d from. ap (λ vs. get_or vs d false) faults_below.quiet
            ∙ all_quiet d;
      }
  values_listed (suc c) s listed =
      -- the scenario with false from c on from which it comes (`source`)
      let source = Contains-flat_map_parts (with_both c) (with_values_below g c) s listed in
      let of_source = values_listed c source.0 source.1 in
      elim (Contains-cases source.0 (with_true c source.0 ∷ []) s source.2) [
        | inl as_it_is ↦
            subst (HasValuesBelow (suc c)) as_it_is
            (record { lawful = of_source.lawful; later = λ d from. of_source.later d (omega arith) })
        | inr in_rest ↦ elim (Contains-cases (with_true c source.0) [] s in_rest) [
          | inl is_true ↦ subst (HasValuesBelow (suc c)) is_true (record {
            lawful = value_changed c true source.0 of_source.lawful;
            later = λ d from. get_or-set_other source.0.values c d true false (omega arith)
                ∙ of_source.later d (omega arith);
          })
          | inr none ↦ absurd (Contains-nil s none)
        ]
      ]

  -- Each scenario with every value false from c on is in the list.
  -- By induction on c: the scenario with the value of c false is in the list before, and its value brings it back.
  pub lists_values : (c : ℕ) → c ≤ condition_count g → (s : Scenario) → HasValuesBelow c s →
      Contains (with_values_below g c) s
  unfolding with_values_below
  -- without true values it is one of the lists of faults
  lists_values zero within s below = lists_faults (process_count g) (omega arith) s (record {
    lawful = below.lawful;
    later = λ q from. get_or_past s.faults q 0 (omega (arith, below.lawful.faults));
    quiet = ext_get_or false s.values (replicate (condition_count g) false) (below.lawful.values
        ∙ sym (length-replicate (condition_count g) false)) (λ d from. below.later d (omega arith) ∙ sym (all_quiet d));
  })
  lists_values (suc c) within s below =
      let long = below.lawful.values in
      -- with the value of c false, which is in the list before
      let without : Scenario = record s { values = set s.values c false } in
      let without_listed = lists_values c (omega arith) without (record {
        lawful = value_changed c false s below.lawful;
        later = λ d from. elim (cases_eq d c) [
          | inl at ↦ ap (λ j. get_or (set s.values c false) j false) at
              ∙ get_or-set_same s.values c false false (omega arith)
          | inr apart ↦ get_or-set_other s.values c d false false apart ∙ below.later d (omega arith)
        ];
      }) in
      -- and with its own value again
      let again : Scenario = record s { values = set (set s.values c false) c (get_or s.values c false) } in
      let back : again ≡ s = same again s
      (set_twice s.values c false (get_or s.values c false) false ∙ set-get_or s.values c false) refl in
      Contains-flat_map (with_both c) (with_values_below g c) without s without_listed
      (elim (cases_Bool (get_or s.values c false)) [
        -- c is true: the scenario is the second one that the list makes
        | inl on ↦ subst (Contains (with_both c without))
            (sym (ap (λ v. let r : Scenario = record s { values = set (set s.values c false) c v } in r) on) ∙ back)
            (Contains-rest without (with_true c without ∷ []) (with_true c without)
            (Contains-first (with_true c without) []))
        -- c is false: it is the first one
        | inr off ↦ subst (Contains (with_both c without))
            (same without s (ap (set s.values c) (sym off) ∙ set-get_or s.values c false) refl)
            (Contains-first without (with_true c without ∷ []))
      ])

  -- if a process has no fault in s, taking away the faults that it is given brings the counts of s back
  fault_cleared : (p f : ℕ) (s : Scenario) → fault_of s p ≡ 0 → set (with_fault p s f).faults p 0 ≡ s.faults
  fault_cleared p f s none = set_twice s.faults p f 0 0 ∙ sym (ap (set s.faults p) none) ∙ set-get_or s.faults p 0

  -- No scenario of the list is there twice.
  -- Two scenarios from one differ in the count of p; two from different ones differ when this count is taken away.
  faults_apart : (p : ℕ) → p ≤ process_count g → AllPairs (λ s t. s ≢ t) (with_faults_below g p)
  unfolding with_faults_below
  faults_apart zero within = AllPairs-cons_by (λ s t. s ≢ t) (zero_scenario g) [] (λ s c. absurd (Contains-nil s c))
      (AllPairs-nil (λ s t. s ≢ t))
  faults_apart (suc p) within =
      AllPairs-flat_map_in (λ s t. s ≢ t) (λ s t. s ≢ t) (with_each_fault g p) (with_faults_below g p)
      -- two that come from one scenario differ in the count of p
      (λ s listed.
      let long = (faults_listed p (omega arith) s listed).lawful.faults in
      AllPairs-map (λ f h. f ≢ h) (λ u v. u ≢ v) (with_fault p s) (numbers_below (g.faults - sum s.faults + 1))
      (λ count other differ equal. differ (sym (get_or-set_same s.faults p count 0 (omega arith))
      ∙ ap (λ u. fault_of u p) equal ∙ get_or-set_same s.faults p other 0 (omega arith)))
      (numbers_apart (g.faults - sum s.faults + 1)))
      -- two that come from different scenarios differ without the count of p
      (λ s t u v s_listed t_listed differ u_of_s v_of_t same_uv.
      let s_below = faults_listed p (omega arith) s s_listed in
      let t_below = faults_listed p (omega arith) t t_listed in
      let s_count = Contains-map_parts (with_fault p s) (numbers_below (g.faults - sum s.faults + 1)) u u_of_s in
      let t_count = Contains-map_parts (with_fault p t) (numbers_below (g.faults - sum t.faults + 1)) v v_of_t in
      differ (same s t (s_below.quiet ∙ sym t_below.quiet)
      (sym (fault_cleared p s_count.0 s (s_below.later p (omega arith)))
      ∙ ap (λ z. set z.faults p 0) (s_count.2 ∙ same_uv ∙ sym t_count.2)
      ∙ fault_cleared p t_count.0 t (t_below.later p (omega arith)))))
      (faults_apart p (omega arith))

  -- if a condition is false in s, making it false in s as it is, or with it true, brings the values of s back
  value_cleared : (c : ℕ) (s u : Scenario) → get_or s.values c false ≡ false → Contains (with_both c s) u →
      (set u.values c false ≡ s.values) × (u.faults ≡ s.faults)
  value_cleared c s u is_false listed = elim (Contains-cases s (with_true c s ∷ []) u listed) [
    | inl is_first ↦ (ap (λ v. set v.values c false) (sym is_first) ∙ unset, ap (λ v. v.faults) (sym is_first))
    | inr in_rest ↦ elim (Contains-cases (with_true c s) [] u in_rest) [
      | inl is_first ↦ (
        ap (λ v. set v.values c false) (sym is_first) ∙ set_twice s.values c true false false ∙ unset,
        ap (λ v. v.faults) (sym is_first),
      )
      | inr none ↦ absurd (Contains-nil u none)
    ]
  ]
    where
      -- to set a value that is false to false changes nothing
      unset : set s.values c false ≡ s.values
      unset = sym (ap (set s.values c) is_false) ∙ set-get_or s.values c false

  -- No scenario of the list is there twice.
  -- Two scenarios from one differ in the value of c; two from different ones differ when this value is taken away.
  values_apart : (c : ℕ) → c ≤ condition_count g → AllPairs (λ s t. s ≢ t) (with_values_below g c)
  unfolding with_values_below
  values_apart zero within = faults_apart (process_count g) (omega arith)
  values_apart (suc c) within = AllPairs-flat_map_in (λ s t. s ≢ t) (λ s t. s ≢ t) (with_both c) (with_values_below g c)
      -- the two that come from one scenario differ in the value of c
      (λ s listed.
      let below = values_listed c s listed in
      let long = below.lawful.values in
      AllPairs-cons_by (λ u v. u ≢ v) s (with_true c s ∷ [])
      (λ v v_listed e. elim (Contains-cases (with_true c s) [] v v_listed) [
        | inl is ↦ both_ways (get_or s.values c false) (below.later c (omega arith))
            (ap (λ u. get_or u.values c false) (e ∙ sym is) ∙ get_or-set_same s.values c true false (omega arith))
        | inr none ↦ Contains-nil v none
      ])
      (AllPairs-cons_by (λ u v. u ≢ v) (with_true c s) [] (λ v v_listed. absurd (Contains-nil v v_listed))
      (AllPairs-nil (λ u v. u ≢ v))))
      -- two that come from different scenarios differ without the value of c
      (λ s t u v s_listed t_listed differ u_of_s v_of_t same_uv.
      let s_cleared = value_cleared c s u ((values_listed c s s_listed).later c (omega arith)) u_of_s in
      let t_cleared = value_cleared c t v ((values_listed c t t_listed).later c (omega arith)) v_of_t in
      differ (same s t (sym s_cleared.0 ∙ ap (λ z. set z.values c false) same_uv ∙ t_cleared.0)
      (sym s_cleared.1 ∙ ap (λ z. z.faults) same_uv ∙ t_cleared.1)))
      (values_apart c (omega arith))

  -- with the values of all conditions, the list has each scenario of the graph once and no other
  pub are_scenarios : AreScenarios g (with_values_below g (condition_count g))
  are_scenarios = record {
    lawful = λ s listed. (values_listed (condition_count g) s listed).lawful;
    all = λ s is. lists_values (condition_count g) (omega arith) s
        (record { lawful = is; later = λ d from. get_or_past s.values d false (omega (arith, is.values)) });
    apart = values_apart (condition_count g) (omega arith);
  }

  -- the scenarios of the list are scenarios of the graph
  pub all_lawful_faults : (p : ℕ) → p ≤ process_count g → All (IsScenario g) (with_faults_below g p)
  all_lawful_faults p within i d inside =
      (faults_listed p within (get_or (with_faults_below g p) i d)
      (Contains-get_or (with_faults_below g p) i d inside)).lawful

  -- each scenario of the list has a value of the next condition
  pub all_within : (c : ℕ) → c < condition_count g → All (HasValue c) (with_values_below g c)
  all_within c below i d inside = let is =
      (values_listed c (get_or (with_values_below g c) i d)
      (Contains-get_or (with_values_below g c) i d inside)).lawful in
      let same_length = is.values in
      omega arith

  -- each scenario with each count of the next process gives the next list
  pub faults_more : (p : ℕ) (xs ys : List Scenario) → xs ≡ with_faults_below g p →
      ys ≡ flat_map (with_each_fault g p) xs →
      ys ≡ with_faults_below g (p + 1)
  unfolding with_faults_below
  faults_more p xs ys is_xs is_ys =
      is_ys ∙ ap (flat_map (with_each_fault g p)) is_xs ∙ ap (with_faults_below g) (sym (add-one p))

  -- each scenario with both values of the next condition gives the next list
  pub values_more : (c : ℕ) (xs ys : List Scenario) → xs ≡ with_values_below g c → ys ≡ flat_map (with_both c) xs →
      ys ≡ with_values_below g (c + 1)
  unfolding with_values_below
  values_more c xs ys is_xs is_ys =
      is_ys ∙ ap (flat_map (with_both c)) is_xs ∙ ap (with_values_below g) (sym (add-one c))

  -- the first list has just the scenario without faults in which every value is false
  pub faults_first : (s : Scenario) → s ≡ zero_scenario g → s ∷ [] ≡ with_faults_below g 0
  unfolding with_faults_below
  faults_first s is_zero = ap (λ x. x ∷ []) is_zero

  -- the list with the faults of all processes is the first with values
  pub values_first : with_faults_below g (process_count g) ≡ with_values_below g 0
  unfolding with_values_below
  values_first = refl

  -- a list of all scenarios isn't empty, as it has the one without faults
  pub some_listed : (list : List Scenario) → AreScenarios g list → 0 < length list
  some_listed list all = let place = all.all (zero_scenario g) (zero_lawful g) in let inside = place.1 in omega arith
