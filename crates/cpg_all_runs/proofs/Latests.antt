-- The search for the greatest time of an item over scenarios, one after another.
use Rattle.std.proofs.Common.{◌≡◌, ◌∙◌, ℕ, ◌+◌, ◌<◌, ◌≤◌, max, List, [], ◌∷◌, length, get_or, Contains, Option, Some}
use Rattle.std.proofs.Common.{None, option_to_list, unwrap_or, arith, refl, sym, ap, subst, inl, inr, ◌⊎◌}
use Rattle.std.proofs.lemmas.Bool.{cases_eq, cases_lt}
use Rattle.std.proofs.lemmas.Option.{none-some}
use Rattle.std.proofs.lemmas.List.{get_or_default}
use Rattle.cpg_base.specs.Numbers.{greatest}
use Rattle.cpg_base.specs.Graph.{Graph, item_count}
use Rattle.cpg_base.proofs.Lists.{greatest-cons}
use Rattle.cpg_base.specs.Scenario.{Scenario}
use Rattle.cpg_order.specs.Urgency.{IsTopological}
use Rattle.cpg_run.specs.Run.{Times, IsRun, unfrozen_time}
use Rattle.cpg_run.specs.Frozen.{WouldHave}
use Rattle.cpg_run.proofs.Runs.{time_active, time_parts}
use Rattle.cpg_run.proofs.RunUnique.{run_unique}
use Rattle.cpg_all_runs.specs.Active.{AreExamples}
use Rattle.cpg_run.specs.Latest.{later, IsUnfrozenTime}

-- `latest` is a time, and `time` isn't later
pub record IsUpTo (latest : Option ℕ) (time : ℕ) : Type 0 where
  -- the time that `latest` is
  pub most : ℕ
  pub is : latest ≡ Some most
  -- it is at least `time`
  pub few : time ≤ most

-- in some scenario of the list the item x has the time
pub record HasTime (g : Graph) (order : List ℕ) (frozen : List (Option ℕ)) (x : ℕ) (list : List Scenario)
    (time : ℕ) : Type 0 where
  -- the scenario, which is one of the list
  pub scenario : Scenario
  pub listed : Contains list scenario
  -- its run has these times
  pub times : Times
  pub run : IsRun g order frozen scenario times
  -- x has the time in that run
  pub has : get_or times.times x None ≡ Some time

-- `latest` is the greatest time of the item x in the first n scenarios, or None if it is active in none
pub record IsLatest (g : Graph) (order : List ℕ) (frozen : List (Option ℕ)) (x n : ℕ) (list : List Scenario)
    (latest : Option ℕ) : Type 0 where
  -- some scenario has it
  pub reached : (time : ℕ) → latest ≡ Some time → HasTime g order frozen x list time
  -- no time of the item in the first n scenarios is later
  pub above : (i : ℕ) (s : Scenario) (t : Times) (time : ℕ) → i < n → get_or list i s ≡ s → IsRun g order frozen s t →
      get_or t.times x None ≡ Some time →
      IsUpTo latest time

-- the later of two times is one of them
later_cases : (a b : Option ℕ) (time : ℕ) → later a b ≡ Some time → (a ≡ Some time) ⊎ (b ≡ Some time)
later_cases None b time is_time = inr is_time
later_cases (Some m) None time is_time = inl is_time
later_cases (Some m) (Some n) time is_time = elim (cases_lt m n) [
  | inl less ↦ inr (ap (λ k. Some k) (let is_n : max m n ≡ n = omega arith in sym is_n) ∙ is_time)
  | inr not_less ↦ inl (ap (λ k. Some k) (let is_m : max m n ≡ m = omega arith in sym is_m) ∙ is_time)
]

-- a time that isn't later than the first isn't later than the later one
later_first : (a b : Option ℕ) (time : ℕ) → IsUpTo a time → IsUpTo (later a b) time
later_first None b time up_to = absurd (none-some up_to.most up_to.is)
later_first (Some m) None time up_to = up_to
later_first (Some m) (Some n) time up_to = record {
  most = max m n;
  is = refl;
  few = let same_most : m ≡ up_to.most = same_some m up_to.most up_to.is in let no_more = up_to.few in omega arith;
}
  where
    -- two numbers are equal if they are so as options
    same_some : (a b : ℕ) → Some a ≡ Some b → a ≡ b
    same_some a b equal = cc

-- the second time isn't later than the later one
later_second : (a : Option ℕ) (time : ℕ) → IsUpTo (later a (Some time)) time
later_second None time = record { most = time; is = refl; few = omega arith }
later_second (Some m) time = record { most = max m time; is = refl; few = omega arith }

-- given: an item and a list of scenarios
module _ (g : Graph) (order : List ℕ) (top : IsTopological g order) (frozen : List (Option ℕ)) (x : ℕ)
    (list : List Scenario) where
  -- before the first scenario the greatest time is None
  pub latest_first : IsLatest g order frozen x 0 list None
  latest_first = record {
    reached = λ time none. absurd (none-some time none);
    above = λ i s t time within at run has_time. absurd (omega arith);
  }

  -- with the n-th scenario the greatest time is the later of the one so far and that of the scenario's run
  pub latest_more : (n : ℕ) (latest : Option ℕ) (s : Scenario) (t : Times) → n < length list → get_or list n s ≡ s →
      IsRun g order frozen s t →
      IsLatest g order frozen x n list latest →
      IsLatest g order frozen x (n + 1) list (later latest (get_or t.times x None))
  latest_more n latest s t within at run before = record {
    -- the old greatest is reached as before, or the new run reaches the time
    reached = λ time is_later. elim (later_cases latest (get_or t.times x None) time is_later) [
      | inl by_old ↦ before.reached time by_old
      | inr by_new ↦ record { scenario = s; listed = (n, within, at); times = t; run = run; has = by_new }
    ];
    -- the new run is no later than the later of the two, and neither is an old one
    above = λ i z u time inside here other has_time. elim (cases_eq i n) [
      | inl same ↦
          let is_s : z ≡ s = sym here ∙ ap (λ j. get_or list j z) same ∙ get_or_default list n z s within ∙ at in
          let same_run : u ≡ t = run_unique g order top frozen s u t (subst (λ y. IsRun g order frozen y u) is_s other)
          run in
          subst (λ o. IsUpTo (later latest o) time)
          (sym (ap (λ (v : Times). get_or v.times x None) (sym same_run) ∙ has_time))
          (later_second latest time)
      | inr apart ↦ later_first latest (get_or t.times x None) time
          (before.above i z u time (omega arith) here other has_time)
    ];
  }

  -- given: the listed scenarios show all runs (`all`), and item x has no frozen time yet (`unset`)
  module _ (all : AreExamples g list) (within : x < item_count g) (unset : get_or frozen x None ≡ None) where
    -- an item without a frozen time has the time that it would have if it were not frozen
    time_unset : (s : Scenario) (t : Times) (run : IsRun g order frozen s t) →
        greatest (unfrozen_time g order s t x ∷ option_to_list (get_or frozen x None)) ≡ unfrozen_time g order s t x
    time_unset s t run = ap (λ o. greatest (unfrozen_time g order s t x ∷ option_to_list o)) unset
        ∙ (let is_same = greatest-cons (unfrozen_time g order s t x) [] in omega arith)

    -- so the item would have the time that it has in some scenario
    would_have : (time : ℕ) → HasTime g order frozen x list time → WouldHave g order frozen x time
    would_have time in_list =
        let parts = time_parts g order frozen in_list.scenario in_list.times in_list.run x time in_list.has in
        record {
          scenario = in_list.scenario;
          lawful = all.lawful in_list.scenario in_list.listed;
          times = in_list.times;
          run = in_list.run;
          active = parts.1;
          has = sym (time_unset in_list.scenario in_list.times in_list.run) ∙ ap (λ o. unwrap_or o 0)
              (sym (time_active g order frozen in_list.scenario in_list.times in_list.run x within parts.1)
              ∙ in_list.has);
        }

    -- no time that the item would have in any scenario is later than the greatest in the list, since one of the list
    -- has the same runs
    would_be_up_to : (n : ℕ) (latest : Option ℕ) (time : ℕ) → n ≡ length list →
        IsLatest g order frozen x n list latest → WouldHave g order frozen x time →
        IsUpTo latest time
    would_be_up_to n latest time long is would =
        let shown = all.all would.scenario would.lawful in
        let shown_scenario = get_or list shown.0 would.scenario in
        let run = (shown.2 would.scenario).back order frozen would.times top would.run in
        is.above shown.0 shown_scenario would.times time (omega (arith, shown.1))
        (get_or_default list shown.0 shown_scenario would.scenario shown.1) run
        (time_active g order frozen would.scenario would.times would.run x within would.active
        ∙ ap (λ k. Some k) (time_unset would.scenario would.times would.run ∙ would.has))

    -- the greatest time in a list that shows all runs is the greatest that the item would have in any scenario
    pub latest_is : (n : ℕ) (latest : Option ℕ) → n ≡ length list → IsLatest g order frozen x n list latest →
        IsUnfrozenTime g order frozen x latest
    latest_is n latest long is = record {
      reached = λ time is_latest. would_have time (is.reached time is_latest);
      greatest = λ time other is_latest would. let up_to = would_be_up_to n latest other long is would in
          let same_most : time ≡ up_to.most = same_some time up_to.most (sym is_latest ∙ up_to.is) in
          let no_more = up_to.few in omega arith;
      none = λ is_latest time would. let up_to = would_be_up_to n latest time long is would in
          none-some up_to.most (sym is_latest ∙ up_to.is);
    }
      where
        -- two numbers that are there are equal if they are so as options
        same_some : (a b : ℕ) → Some a ≡ Some b → a ≡ b
        same_some a b equal = cc
