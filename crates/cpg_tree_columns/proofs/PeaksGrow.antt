-- The peak of the processes 0 .. n - 1 becomes that of 0 .. n once process n is taken into account, or is passed over
-- as it is under the bar. In the lemmas s is a scenario, and o a greatest time or none.
use Rattle.std.proofs.Common.{ℕ, ◌+◌, ◌≤◌, ◌<◌, ◌≡◌, ◌==◌, ◌⊎◌, Bool, true, false, nat_lt, if◌then◌else◌, List, Option}
use Rattle.std.proofs.Common.{Some, None, All, arith, eq-eqb, refl, sym, ap, ◌∙◌, subst, inl, inr, le-leb}
use Rattle.std.proofs.Common.{lt-ltb}
use Rattle.std.specs.Prelude.{nat_le}
use Rattle.std.proofs.lemmas.Bool.{cases_Bool, cases_lt, cases_eq, cond-true, cond-false, both_ways, false≢true}
use Rattle.std.proofs.lemmas.Bool.{leb-true, ne_eqb, ltb-true}
use Rattle.std.proofs.lemmas.List.Elements.{All-contains}
use Rattle.std.proofs.lemmas.Option.{none-some}
use Rattle.cpg_base.specs.Graph.{Graph, process_count}
use Rattle.cpg_base.specs.Duration.{due}
use Rattle.cpg_base.specs.Scenario.{zero_scenario, is_before, Scenario, IsScenario}
use Rattle.cpg_base.proofs.ScenarioOrder.{before_one_way, not_before_transitive}
use Rattle.cpg_tree_columns.specs.Greatest.{HasValueAt, IsGreatestOf}
use Rattle.cpg_tree.specs.Tree.{Path, TreeState, IsOnPath}
use Rattle.cpg_tree.specs.GraphTrees.{IsTree}
use Rattle.cpg_tree_columns.specs.Tops.{IsTop, HasFrom, reaches}
use Rattle.cpg_tree_columns.specs.Past.{time_past}
use Rattle.cpg_tree_columns.specs.Peaks.{tree_at, EndsAt, EndsPast, IsPeakOf, IsPeakBy, IsPeak, goes_before_by, goes_before}
use Rattle.cpg_tree_columns.specs.Peaks.{or_time, IsNextPeak, IsNextExcess}
use Rattle.cpg_tree_columns.specs.declared.measuring.Peak.{Peak}
use Rattle.cpg_tree.proofs.OnePath.{scenario_few, the_path}
use Rattle.cpg_tree.proofs.GraphTrees.{few_of}

-- of no processes, the empty peak is the peak
pub no_peak : (g : Graph) (urgency : List ℕ) (has : ℕ → ℕ → Scenario → Type 0) (peak : Peak) →
    peak ≡ record { time = 0; scenario = zero_scenario g; process = None } →
    IsPeak g urgency 0 has peak
no_peak g urgency has peak is = subst (IsPeak g urgency 0 has) (sym is)
    (record { time = refl; scenario = refl; none = λ q time s l law h. absurd (omega arith) })

-- if all processes have been gone over, the peak is that of all
pub all_processes : (g : Graph) (urgency : List ℕ) (has : ℕ → ℕ → Scenario → Type 0) (n : ℕ) (peak : Peak) →
    n ≡ process_count g →
    IsPeak g urgency n has peak →
    IsPeak g urgency (process_count g) has peak
all_processes g urgency has n peak is_all is_peak = subst (λ i. IsPeak g urgency i has peak) is_all is_peak

-- b goes before a just if it is greater, or equal with c true: its scenario comes first
later_or_first : (a b : ℕ) (c : Bool) → (if a == b then c else nat_lt a b) ≡ true → (a < b) ⊎ ((a ≡ b) × (c ≡ true))
later_or_first a b c goes = elim (cases_eq a b) [
  | inl same ↦ inr (same, sym (cond-true (a == b) c (nat_lt a b) (eq-eqb a b same)) ∙ goes)
  | inr differ ↦ inl (ltb-true a b (sym (cond-false (a == b) c (nat_lt a b) (ne_eqb a b differ)) ∙ goes))
]

-- if b doesn't go before a, it is less, or equal with its scenario not first
sooner_or_not_first : (a b : ℕ) (c : Bool) → (if a == b then c else nat_lt a b) ≡ false →
    (b < a) ⊎ ((a ≡ b) × (c ≡ false))
sooner_or_not_first a b c not_sooner = elim (cases_eq a b) [
  | inl same ↦ inr (same, sym (cond-true (a == b) c (nat_lt a b) (eq-eqb a b same)) ∙ not_sooner)
  | inr differ ↦ elim (cases_lt a b) [
    | inl is_less ↦
        absurd (both_ways (nat_lt a b) (sym (cond-false (a == b) c (nat_lt a b) (ne_eqb a b differ)) ∙ not_sooner)
        (lt-ltb a b is_less))
    | inr no_more ↦ inl (less a b no_more differ)
  ]
]
  where
    -- of two numbers that differ, the one that isn't greater is less
    less : (a b : ℕ) → b ≤ a → (a ≡ b → ⊥) → b < a
    less a b no_less differ = elim (cases_lt b a) [ inl under ↦ under | inr not_less ↦ absurd (differ (omega arith)) ]

-- given: the next process n, and `has`: `has q time s` says that process q has the time in scenario s
module _ (g : Graph) (urgency : List ℕ) (n : ℕ) (has : ℕ → ℕ → Scenario → Type 0) where
  -- a process among the first n + 1 is among the first n, or the next one
  of_next : (q time : ℕ) (s : Scenario) → q < n + 1 → has q time s → (q < n) ⊎ has n time s
  of_next q time s below has_it = elim (cases_lt q n) [
    | inl before ↦ inl before
    | inr not_before ↦ inr (let is_n : q ≡ n = omega arith in subst (λ i. has i time s) is_n has_it)
  ]

  -- ---- the peak stays

  -- the peak stays if the next process has no time, or none that goes before it
  stays : (peak : Peak) (o : Option ℕ) → IsPeakBy g urgency n has peak o →
      (o ≡ None → (time : ℕ) (s : Scenario) → IsScenario g s → has n time s → ⊥) →
      ((p : ℕ) → o ≡ Some p → (time : ℕ) (s : Scenario) → IsScenario g s → has n time s →
      (time ≤ peak.time) × (time ≡ peak.time → is_before g urgency s peak.scenario ≡ false)) →
      IsPeakBy g urgency (n + 1) has peak o
  stays peak None is_peak none some = record {
    -- no process had a time, and the next one has none
    time = is_peak.time;
    scenario = is_peak.scenario;
    none = λ q time s below law has_it.
        elim (of_next q time s below has_it) [
          | inl before ↦ is_peak.none q time s before law has_it
          | inr by_n ↦ none refl time s law by_n
        ];
  }
  stays peak (Some p) is_peak none some = record {
    -- no greater time comes from the next process
    most = λ q time s below law has_it.
        elim (of_next q time s below has_it) [
          | inl before ↦ is_peak.most q time s before law has_it
          | inr by_n ↦ (some p refl time s law by_n).0
        ];
    -- nor an earlier scenario
    least = record {
      lawful = is_peak.least.lawful;
      holds = (is_peak.least.holds.0, omega (arith, is_peak.least.holds.1), is_peak.least.holds.2);
      least = λ t law has_it. elim (of_next has_it.0 peak.time t has_it.1 has_it.2) [
        | inl before ↦ is_peak.least.least t law (has_it.0, before, has_it.2)
        | inr by_n ↦ (some p refl peak.time t law by_n).1 refl
      ];
    };
    -- so p stays the first process
    there = omega (arith, is_peak.there);
    is = is_peak.is;
    first = is_peak.first;
  }

  -- a process that has no time leaves the peak as it is
  pub next_none : (peak : Peak) → IsPeak g urgency n has peak →
      ((time : ℕ) (s : Scenario) → IsScenario g s → has n time s → ⊥) →
      IsPeak g urgency (n + 1) has peak
  next_none peak is_peak none =
      stays peak peak.process is_peak (λ is_none. none) (λ p is_some time s law has_it. absurd (none time s law has_it))

  -- given: paths with the times that the next process has
  -- `into`: each time that process n has is a value of the paths; `there`: the greatest value is a time that n has
  module _ (paths : List (Path (Option ℕ)))
      (into : (time : ℕ) (s : Scenario) → IsScenario g s → has n time s → HasValueAt paths (Some time) s)
      (there : (time : ℕ) (s : Scenario) → IsGreatestOf g urgency paths time s → has n time s) where
    -- ---- the next process has no time

    -- if no path has a time, the process has none in any scenario
    none_of_paths : All (λ (p : Path (Option ℕ)). p.1 ≡ None) paths → (time : ℕ) (s : Scenario) → IsScenario g s →
        has n time s → ⊥
    none_of_paths none time s law has_it = let on_path = into time s law has_it in
        none-some time (sym (All-contains (λ (p : Path (Option ℕ)). p.1 ≡ None) paths on_path.0 none on_path.1.stands)
        ∙ on_path.2)

    -- ---- the next process has the greatest time

    -- given: the greatest time of process n, and the least scenario that has it
    module _ (time : ℕ) (scenario : Scenario) (greatest : IsGreatestOf g urgency paths time scenario) where
      -- the peak that process n would be, by its greatest time
      abbrev new : Peak
      new = record { time = time; scenario = scenario; process = Some n }

      -- no time of the next process is greater
      at_most : (other : ℕ) (s : Scenario) → IsScenario g s → has n other s → other ≤ time
      at_most other s law has_it = let on_path = into other s law has_it in
          greatest.most on_path.0 other on_path.1.stands on_path.2

      -- no scenario before it has this time
      not_earlier : (s : Scenario) → IsScenario g s → has n time s → is_before g urgency s scenario ≡ false
      not_earlier s law has_it = greatest.least.least s law (into time s law has_it)

      -- the next process has this time in this scenario
      here : has n time scenario
      here = there time scenario greatest

      -- process n is the peak of all if no earlier process has a greater time, has the time in an earlier scenario, or
      -- has it in this one
      comes : ((q other : ℕ) (s : Scenario) → q < n → IsScenario g s → has q other s → other ≤ time) →
          ((q : ℕ) (s : Scenario) → q < n → IsScenario g s → has q time s → is_before g urgency s scenario ≡ false) →
          ((q : ℕ) → q < n → has q time scenario → ⊥) → IsPeakOf g urgency (n + 1) has new n
      -- the times of the processes below n + 1 are those below n, and those of n, of which `time` is the greatest
      comes most least first = record {
        most = λ q other s below law has_it.
            elim (of_next q other s below has_it) [
              | inl before ↦ most q other s before law has_it
              | inr by_n ↦ at_most other s law by_n
            ];
        least = record {
          lawful = greatest.least.lawful;
          holds = (n, omega arith, here);
          least = λ t law has_it.
              elim (of_next has_it.0 time t has_it.1 has_it.2) [
                | inl before ↦ least has_it.0 t before law has_it.2
                | inr by_n ↦ not_earlier t law by_n
              ];
        };
        there = omega arith;
        is = here;
        first = first;
      }

      -- if its time goes before the old peak's, the next process is the peak
      goes : (peak : Peak) (o : Option ℕ) → IsPeakBy g urgency n has peak o →
          goes_before_by g urgency peak time scenario o ≡ true →
          IsPeakOf g urgency (n + 1) has new n
      -- there was no peak, so no process has a time
      goes peak None is_peak goes_first = comes
          (λ q other s below law has_it. absurd (is_peak.none q other s below law has_it))
          (λ q s below law has_it. absurd (is_peak.none q time s below law has_it))
          (λ q below has_it. is_peak.none q time scenario below greatest.least.lawful has_it)
      goes peak (Some p) is_peak goes_first =
          elim (later_or_first peak.time time (is_before g urgency scenario peak.scenario) goes_first) [
            -- the time is greater
            | inl less ↦ comes
                (λ q other s below law has_it. omega (arith, less, is_peak.most q other s below law has_it))
                (λ q s below law has_it. absurd (omega (arith, less, is_peak.most q time s below law has_it)))
                (λ q below has_it. absurd (omega (
                  arith,
                  less,
                  is_peak.most q time scenario below greatest.least.lawful has_it,
                )))
            -- it is the same, and the scenario comes first
            | inr same ↦ comes
                (λ q other s below law has_it. omega (arith, same.0, is_peak.most q other s below law has_it))
                (λ q s below law has_it. not_before_transitive g urgency scenario peak.scenario s
                (before_one_way g urgency scenario peak.scenario same.1)
                (is_peak.least.least s law (q, below, subst (λ i. has q i s) (sym same.0) has_it)))
                (λ q below has_it. both_ways (is_before g urgency scenario peak.scenario) (is_peak.least.least scenario
                greatest.least.lawful (q, below, subst (λ i. has q i scenario) (sym same.0) has_it)) same.1)
          ]

      -- the peak of the first n processes stays one with process n too, if n's greatest time doesn't go before it
      keeps : (peak : Peak) (o : Option ℕ) → IsPeakBy g urgency n has peak o →
          goes_before_by g urgency peak time scenario o ≡ false →
          IsPeakBy g urgency (n + 1) has peak o
      -- if no process has a peak, any time goes before it
      keeps peak None is_peak not_first =
          absurd (both_ways (goes_before_by g urgency peak time scenario None) not_first refl)
      keeps peak (Some p) is_peak not_first =
          elim (sooner_or_not_first peak.time time (is_before g urgency scenario peak.scenario) not_first) [
            -- the peak's time is greater
            | inl less ↦ stays peak (Some p) is_peak (λ is_none. absurd (none-some p (sym is_none)))
                (λ q is_some other s law has_it. (
                  omega (arith, less, at_most other s law has_it),
                  λ equal. absurd (omega (arith, less, at_most other s law has_it, equal)),
                ))
            -- it is the same, and the scenario doesn't come first
            | inr same ↦ stays peak (Some p) is_peak (λ is_none. absurd (none-some p (sym is_none)))
                (λ q is_some other s law has_it. (
                  omega (arith, same.0, at_most other s law has_it),
                  λ equal. not_before_transitive g urgency peak.scenario scenario s same.1
                      (not_earlier s law (subst (λ j. has n j s) (equal ∙ same.0) has_it)),
                ))
          ]

      -- the peak with the greatest time of the next process is the peak of one process more
      pub or_keeps : (peak : Peak) → IsPeak g urgency n has peak →
          IsPeak g urgency (n + 1) has (or_time g urgency peak time scenario n)
      or_keeps peak is_peak = elim (cases_Bool (goes_before g urgency peak time scenario)) [
        | inl goes_first ↦ subst (IsPeak g urgency (n + 1) has)
            (sym (cond-true (goes_before g urgency peak time scenario) new peak goes_first))
            (goes peak peak.process is_peak goes_first)
        | inr not_first ↦ subst (IsPeak g urgency (n + 1) has)
            (sym (cond-false (goes_before g urgency peak time scenario) new peak not_first))
            (keeps peak peak.process is_peak not_first)
      ]

    -- the peak with the paths of the next process is the peak of one process more
    pub next_peak : (old next : Peak) → IsPeak g urgency n has old → IsNextPeak g urgency paths n old next →
        IsPeak g urgency (n + 1) has next
    next_peak old next is_peak (inl same) = subst (IsPeak g urgency (n + 1) has) (sym same.same)
        (next_none old is_peak (none_of_paths same.none))
    next_peak old next is_peak (inr later) =
        subst (IsPeak g urgency (n + 1) has) (sym later.is)
        (or_keeps later.time later.scenario later.greatest old is_peak)

-- ---- times from a bar on

-- given: the greatest time that the next process has, and a bar
-- `n`, `has`: the next process, and the times that it has; `bar`: a bar; `top`, `is_top`: n's greatest time
module _ (g : Graph) (urgency : List ℕ) (n : ℕ) (has : ℕ → ℕ → Scenario → Type 0) (bar : ℕ) (top : Option ℕ)
    (is_top : IsTop g (has n) top) where
  -- a process whose greatest time is under the bar has no time from the bar on
  none_from : (o : Option ℕ) → IsTop g (has n) o → reaches bar o ≡ false → (time : ℕ) (s : Scenario) → IsScenario g s →
      HasFrom bar has n time s → ⊥
  none_from None is under time s law has_from = is time s law has_from.is
  none_from (Some t) is under time s law has_from =
      both_ways (nat_le bar t) under (le-leb bar t (omega (arith, has_from.from, is.above time s law has_from.is)))

  -- a process whose greatest time is under the bar leaves the peak of the times from the bar on as it is
  pub next_under : reaches bar top ≡ false → (peak : Peak) → IsPeak g urgency n (HasFrom bar has) peak →
      IsPeak g urgency (n + 1) (HasFrom bar has) peak
  next_under under peak is_peak = next_none g urgency n (HasFrom bar has) peak is_peak (none_from top is_top under)

  -- given: paths with the times of the next process, which reaches the bar
  -- `reached`: n's greatest time isn't under the bar; `into`, `from`: the values of the paths are the times that n
  -- has
  module _ (reached : reaches bar top ≡ true) (paths : List (Path (Option ℕ)))
      (into : (time : ℕ) (s : Scenario) → IsScenario g s → has n time s → HasValueAt paths (Some time) s)
      (from : (time : ℕ) (s : Scenario) → IsScenario g s → HasValueAt paths (Some time) s → has n time s) where
    -- the greatest time of one that reaches the bar isn't under it
    not_under : (o : Option ℕ) → IsTop g (has n) o → reaches bar o ≡ true → (time : ℕ) (s : Scenario) →
        IsGreatestOf g urgency paths time s → bar ≤ time
    not_under None is reaches_it time s greatest = absurd (false≢true reaches_it)
    not_under (Some m) is reaches_it time s greatest =
        let on_path = into m is.scenario is.lawful is.there in
        omega (arith, leb-true bar m reaches_it, greatest.most on_path.0 m on_path.1.stands on_path.2)

    -- the paths of a process that reaches the bar give the next peak of the times from the bar on
    pub next_from : (old next : Peak) → IsPeak g urgency n (HasFrom bar has) old →
        IsNextPeak g urgency paths n old next →
        IsPeak g urgency (n + 1) (HasFrom bar has) next
    -- the greatest time isn't under the bar, since the top reaches it
    next_from old next is_peak is = next_peak g urgency n (HasFrom bar has) paths
        (λ time s law h. into time s law h.is)
        (λ time s greatest. record {
          from = not_under top is_top reached time s greatest;
          is = from time s greatest.least.lawful greatest.least.holds;
        })
        old next is_peak is

-- ---- of trees

-- a process that has an excess has an end
pub past_end : (o : Option ℕ) (due x : ℕ) → time_past due o ≡ Some x → (end : ℕ) × (o ≡ Some end)
past_end None due x is_x = absurd (none-some x is_x)
past_end (Some end) due x is_x = (end, refl)

-- given: the tree of the next process's ends, and two peaks
-- `trees`, `n`, `end`, `same`: the trees of the ends, and that of process n; `old`, `next`: the peak before n and
-- with n
module _ (g : Graph) (urgency : List ℕ) (trees : List (TreeState (Option ℕ))) (n : ℕ) (end : TreeState (Option ℕ))
    (same : end ≡ tree_at g trees n) (old next : Peak) where
  -- given: a bar that n's greatest time, `top`, reaches
  module _ (bar : ℕ) (top : Option ℕ) (reached : reaches bar top ≡ true) where
    -- the peak of the ends from the bar on grows with the ends of process n
    pub next_end : IsTop g (EndsAt g trees n) top → IsPeak g urgency n (HasFrom bar (EndsAt g trees)) old →
        IsNextPeak g urgency end.paths n old next →
        IsPeak g urgency (n + 1) (HasFrom bar (EndsAt g trees)) next
    next_end is_top is_peak is = next_from g urgency n (EndsAt g trees) bar top is_top reached end.paths
        (λ time s law ends_then. subst (λ (t : TreeState (Option ℕ)). HasValueAt t.paths (Some time) s)
        (sym same) ends_then)
        (λ time s law ends_then. subst (λ (t : TreeState (Option ℕ)). HasValueAt t.paths (Some time) s) same ends_then)
        old next is_peak is

  -- given: the tree of n's ends, and the next peak of the excesses (`is`)
  module _ (of_end : IsTree g end) (is : IsNextExcess g urgency end n old next) where
    -- the tree of the excesses has how far each end is past the due
    excess_value : (s : Scenario) → IsScenario g s → (x z : Path (Option ℕ)) → IsOnPath end.paths s x →
        IsOnPath is.tree.paths s z →
        z.1 ≡ time_past (due g n) x.1
    excess_value s law x z on_x on_z =
        is.made.value s x z (few_of g.faults end.faults s of_end.faults (scenario_few g s law)) on_x on_z

    -- if process n ends past its due in a scenario, the tree of the excesses says by how much
    excess_into : (time : ℕ) (s : Scenario) → IsScenario g s → EndsPast g trees n time s →
        HasValueAt is.tree.paths (Some time) s
    excess_into time s law past =
        let on_end : HasValueAt end.paths (Some past.0) s =
        subst (λ (t : TreeState (Option ℕ)). HasValueAt t.paths (Some past.0) s) (sym same) past.1 in
        let past_path = the_path g.faults is.tree.paths is.of.each s (scenario_few g s law) in (
          past_path.0,
          past_path.1,
          excess_value s law on_end.0 past_path.0 on_end.1 past_path.1 ∙ ap (time_past (due g n)) on_end.2 ∙ past.2,
        )

    -- a number that this tree has is how far process n ends past its due
    excess_from : (time : ℕ) (s : Scenario) → IsScenario g s → HasValueAt is.tree.paths (Some time) s →
        EndsPast g trees n time s
    -- the number is made from an end of the same scenario
    excess_from time s law has_past =
        let end_path = the_path g.faults end.paths of_end.each s (scenario_few g s law) in
        let past : time_past (due g n) end_path.0.1 ≡ Some time =
        sym (excess_value s law end_path.0 has_past.0 end_path.1 has_past.1) ∙ has_past.2 in
        let at = past_end end_path.0.1 (due g n) time past in (
          at.0,
          subst (λ (t : TreeState (Option ℕ)). HasValueAt t.paths (Some at.0) s) same (end_path.0, end_path.1, at.1),
          ap (time_past (due g n)) (sym at.1) ∙ past,
        )

    -- given: a bar that n's greatest excess, `top`, reaches
    module _ (bar : ℕ) (top : Option ℕ) (reached : reaches bar top ≡ true) where
      -- the peak of the excesses from the bar on grows with those of process n
      pub next_past : IsTop g (EndsPast g trees n) top → IsPeak g urgency n (HasFrom bar (EndsPast g trees)) old →
          IsPeak g urgency (n + 1) (HasFrom bar (EndsPast g trees)) next
      next_past is_top is_peak = next_from g urgency n
          (EndsPast g trees) bar top is_top reached is.tree.paths excess_into excess_from old next is_peak is.next
