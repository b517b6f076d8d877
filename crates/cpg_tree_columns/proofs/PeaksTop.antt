-- The peak of the times that aren't under the greatest top is the peak of all times; and what the tops are.
use Rattle.std.proofs.Common.{ℕ, ◌+◌, ◌-◌, ◌<◌, ◌≤◌, ◌≡◌, ◌⊎◌, nat_lt, List, [], ◌∷◌, ◌++◌, map, length, get_or, Option}
use Rattle.std.proofs.Common.{Some, None, unwrap_or, All, Contains, arith, sym, ap, ◌∙◌, subst, inl, inr}
use Rattle.std.proofs.Common.{lt-ltb, le-ltb}
use Rattle.std.specs.Option.{IfNone, IfSome}
use Rattle.std.proofs.lemmas.Bool.{cases_lt, cond-true, cond-false}
use Rattle.std.proofs.lemmas.List.{get_or_append_left, get_or-append_right, get_or_default, length-append, length-map}
use Rattle.std.proofs.lemmas.List.FromFn.{length-range_with_len}
use Rattle.std.proofs.lemmas.List.Elements.{All-contains, All-get_or}
use Rattle.std.proofs.lemmas.Option.{none-some, same_Some}
use Rattle.cpg_base.specs.Graph.{Graph, process_count}
use Rattle.cpg_base.specs.Duration.{due}
use Rattle.cpg_base.specs.Numbers.{numbers_below}
use Rattle.cpg_base.proofs.Lists.{Contains-map_parts, get_or-map-below, greatest_cases}
use Rattle.cpg_base.specs.Scenario.{Scenario, IsScenario}
use Rattle.cpg_tree_columns.specs.Greatest.{IsGreatestNumber}
use Rattle.cpg_tree.specs.Tree.{Path, TreeState}
use Rattle.cpg_tree.proofs.Passing.{known_from}
use Rattle.cpg_tree.specs.GraphTrees.{IsTree}
use Rattle.cpg_tree.specs.GraphTrees.{no_tree}
use Rattle.cpg_tree_columns.specs.Peaks.{tree_at, EndsAt, EndsPast, IsPeakBy, IsPeak}
use Rattle.cpg_tree_columns.specs.Tops.{IsTopOf, AreTops, past_tops, bar_of, IsTop, HasTops, HasFrom}
use Rattle.cpg_tree_columns.specs.Past.{time_past}
use Rattle.cpg_tree_columns.specs.declared.measuring.Peak.{Peak}

-- ---- the bar is 0 or some process's

-- the bar is 0, or the top of some process
bar_cases : (tops : List (Option ℕ)) →
    (bar_of tops ≡ 0) ⊎ ((q : ℕ) × (q < length tops) × (get_or tops q None ≡ Some (bar_of tops)))
bar_cases tops = elim (greatest_cases (map (λ o. unwrap_or o 0) tops)) [
  | inl is_zero ↦ inl is_zero
  | inr listed ↦ let found = Contains-map_parts (λ (o : Option ℕ). unwrap_or o 0) tops (bar_of tops) listed in
      at found.0 found.1 found.2
]
  where
    -- a top that is equal to the bar is some process's, or it is missing and the bar is 0
    at : (o : Option ℕ) → Contains tops o → unwrap_or o 0 ≡ bar_of tops →
        (bar_of tops ≡ 0) ⊎ ((q : ℕ) × (q < length tops) × (get_or tops q None ≡ Some (bar_of tops)))
    at None listed is_bar = inl (sym is_bar)
    at (Some t) listed is_bar =
        inr (listed.0, listed.1, get_or_default tops listed.0 None (Some t) listed.1 ∙ listed.2 ∙ ap Some is_bar)

-- given: the greatest time of each process, and a peak
-- `n`, `has`: the processes, and the times that each has; `tops`, `count`, `are`: the greatest time of each
module _ (g : Graph) (urgency : List ℕ) (n : ℕ) (has : ℕ → ℕ → Scenario → Type 0) (tops : List (Option ℕ))
    (count : length tops ≡ n) (are : HasTops g n has tops) (peak : Peak) where
  -- if no process has a time from the bar on, none has any: the bar is 0, or some process's greatest time
  none_at_all : (q time : ℕ) (s : Scenario) → q < n → IsScenario g s → has q time s →
      ((r : ℕ) (other : ℕ) (u : Scenario) → r < n → IsScenario g u → HasFrom (bar_of tops) has r other u → ⊥) → ⊥
  none_at_all q time s below law has_it none = elim (bar_cases tops) [
    | inl is_zero ↦ none q time s below law (record { from = omega (arith, is_zero); is = has_it })
    | inr found ↦
        let within : found.0 < n = omega (arith, found.1, count) in
        let top : IsTop g (has found.0) (Some (bar_of tops)) =
        subst (IsTop g (has found.0)) found.2 (are found.0 within) in
        none found.0 (bar_of tops) top.scenario within top.lawful (record { from = omega arith; is = top.there })
  ]

  -- the peak of the times from the bar on is that of all, whether some process has it or none
  by : (o : Option ℕ) → IsPeakBy g urgency n (HasFrom (bar_of tops) has) peak o → IsPeakBy g urgency n has peak o
  -- no process has a time from the bar on, so none has any
  by None is_peak = record {
    time = is_peak.time;
    scenario = is_peak.scenario;
    none = λ q time s below law has_it. none_at_all q time s below law has_it is_peak.none;
  }
  -- the peak is from the bar on, and times under the bar are less
  by (Some p) is_peak = record {
    most = λ q time s below law has_it. elim (cases_lt time (bar_of tops)) [
      | inl under ↦ omega (arith, under, is_peak.is.from)
      | inr from ↦ is_peak.most q time s below law (record { from = from; is = has_it })
    ];
    least = record {
      lawful = is_peak.least.lawful;
      holds = (is_peak.least.holds.0, is_peak.least.holds.1, is_peak.least.holds.2.is);
      least = λ t law has_it. is_peak.least.least t law (
        has_it.0,
        has_it.1,
        record { from = is_peak.is.from; is = has_it.2 },
      );
    };
    there = is_peak.there;
    is = is_peak.is.is;
    first = λ q below has_it. is_peak.first q below (record { from = is_peak.is.from; is = has_it });
  }

  -- the peak of the times from the bar on is the peak of all times
  pub peak_of_all : IsPeak g urgency n (HasFrom (bar_of tops) has) peak → IsPeak g urgency n has peak
  peak_of_all = by peak.process

-- ---- the tops of trees

-- the greatest number that is found in a tree, or none if no path has a time, is its top
pub top_from : (t : TreeState (Option ℕ)) (o : Option ℕ) → IfNone o (All (λ p. p.1 ≡ None) t.paths) →
    IfSome o (IsGreatestNumber t) → IsTopOf t o
top_from t None none some = none
top_from t (Some m) none some = some

-- given: the trees of all ends, and the greatest number of each
-- `trees`, `all`: the trees of the ends; `tops`, `are`: the greatest number of each; `count`: there is a tree per
-- process
module _ (g : Graph) (processes : process_count g ≤ 128) (trees : List (TreeState (Option ℕ)))
    (all : All (IsTree g) trees) (tops : List (Option ℕ)) (are : AreTops trees (length trees) tops)
    (count : length trees ≡ process_count g) where
  -- the top of a tree of ends is the greatest end that its process has
  top_of : (q : ℕ) → IsTree g (tree_at g trees q) → (o : Option ℕ) → IsTopOf (tree_at g trees q) o →
      IsTop g (EndsAt g trees q) o
  -- the greatest number of the paths is reached in some scenario of the graph
  top_of q tree None none = λ time s law ends_then. none-some time
      (sym (All-contains (λ (p : Path (Option ℕ)). p.1 ≡ None) (tree_at g trees q).paths ends_then.0 none
      ends_then.1.stands) ∙ ends_then.2)
  top_of q tree (Some m) most =
      let reached = most.reached g processes tree.faults (known_from g (tree_at g trees q).paths tree.known) in
      record {
        above = λ time s law ends_then. most.above ends_then.0 time ends_then.1.stands ends_then.2;
        scenario = reached.scenario;
        lawful = reached.lawful;
        there = reached.has;
      }

  -- the tops of the trees of ends are the greatest ends in any scenario
  pub ends_tops : HasTops g (process_count g) (EndsAt g trees) tops
  ends_tops q below =
      let within : q < length trees = omega (arith, below, count) in
      top_of q (All-get_or (IsTree g) trees q (no_tree g.faults) within all) (get_or tops q None)
      (are.each q (no_tree g.faults) within)

-- one more top makes the tops of one tree more
pub tops_more : (trees : List (TreeState (Option ℕ))) (n : ℕ) (tops new : List (Option ℕ)) (tree : TreeState (Option ℕ))
    (o : Option ℕ) → AreTops trees n tops →
    n < length trees →
    ((d : TreeState (Option ℕ)) → get_or trees n d ≡ tree) → IsTopOf tree o → new ≡ tops ++ o ∷ [] →
    AreTops trees (n + 1) new
tops_more trees n tops new tree o are within is top more = subst (AreTops trees (n + 1)) (sym more) (record {
  count = length-append tops (o ∷ []) ∙ ap (λ m. m + 1) are.count;
  -- the trees so far keep their tops, and the last is of the new tree
  each = λ q d below. elim (cases_lt q n) [
    | inl before ↦ subst (IsTopOf (get_or trees q d))
        (sym (get_or_append_left tops (o ∷ []) None q (omega (arith, before, are.count)))) (are.each q d before)
    | inr not_before ↦
        let is_last : n ≡ q = omega (arith, below, not_before) in
        subst (λ i. IsTopOf (get_or trees i d) (get_or (tops ++ o ∷ []) i None)) is_last
        (subst (λ (t : TreeState (Option ℕ)). IsTopOf t (get_or (tops ++ o ∷ []) n None)) (sym (is d))
        (subst (IsTopOf tree) (sym last) top))
  ];
})
  where
    -- the last of the tops is the one that is added
    last : get_or (tops ++ o ∷ []) n None ≡ o
    last = get_or-append_right tops (o ∷ []) n n None are.count (omega arith)
        ∙ ap (λ i. get_or (o ∷ []) i None) (let equal : n - n ≡ 0 = omega arith in equal)

-- ---- how far they are past their dues

-- a time is past its due by as much as it is later
past_later : (due time x : ℕ) → time_past due (Some time) ≡ Some x → (due < time) × (x ≡ time - due)
past_later due time x is_x = elim (cases_lt due time) [
  | inl late ↦ (
    late,
    same_Some _ _
        (sym is_x ∙ cond-true (nat_lt due time) (Some (time - due)) None (lt-ltb due time late)),
  )
  | inr in_time ↦ absurd (none-some x
      (sym (cond-false (nat_lt due time) (Some (time - due)) None (le-ltb due time in_time)) ∙ is_x))
]

-- given: a graph, and the tree of the ends of each process
module _ (g : Graph) (trees : List (TreeState (Option ℕ))) where
  -- the top of what is past the dues is the top of the ends, past the due
  past_top : (q : ℕ) (o : Option ℕ) → IsTop g (EndsAt g trees q) o →
      IsTop g (EndsPast g trees q) (time_past (due g q) o)
  -- the process has no end, so none that is past
  past_top q None is = λ time s law past_it. is past_it.0 s law past_it.1
  past_top q (Some top) is = elim (cases_lt (due g q) top) [
    -- its top is past the due
    | inl less ↦
        let later : time_past (due g q) (Some top) ≡ Some (top - due g q) =
        cond-true (nat_lt (due g q) top) (Some (top - due g q)) None (lt-ltb (due g q) top less) in
        subst (IsTop g (EndsPast g trees q)) (sym later) (record {
          above = λ time s law h. let past = past_later (due g q) h.0 time h.2 in
              omega (arith, past.1, is.above h.0 s law h.1);
          scenario = is.scenario;
          lawful = is.lawful;
          there = (top, is.there, later);
        })
    -- its top isn't past the due, and no other end is
    | inr not_less ↦ subst (IsTop g (EndsPast g trees q))
        (sym (cond-false (nat_lt (due g q) top) (Some (top - due g q)) None (le-ltb (due g q) top not_less)))
        (λ time s law h. let past = past_later (due g q) h.0 time h.2 in
        absurd (omega (arith, past.0, not_less, is.above h.0 s law h.1)))
  ]

  -- the tops of what is past the dues are those of the ends, past the dues
  pub past_tops_are : (tops : List (Option ℕ)) → HasTops g (process_count g) (EndsAt g trees) tops →
      HasTops g (process_count g) (EndsPast g trees) (past_tops g tops)
  past_tops_are tops are q l = subst (IsTop g (EndsPast g trees q))
      (sym (get_or-map-below (λ p. time_past (due g p) (get_or tops p None)) (process_count g) q None l))
      (past_top q (get_or tops q None) (are q l))

-- there is a top for each process
pub past_count : (g : Graph) (tops : List (Option ℕ)) → length (past_tops g tops) ≡ process_count g
past_count g tops = length-map (numbers_below (process_count g)) (λ q. time_past (due g q) (get_or tops q None))
    ∙ length-range_with_len 0 (process_count g)
