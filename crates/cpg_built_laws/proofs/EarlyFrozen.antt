-- The frozen times of an order are early: each is at most a bound that grows with the moment of its item. A frozen
-- time is a time of some run under the frozen times of earlier moments.
use Rattle.std.proofs.Common.{◌≡◌, ◌∙◌, ℕ, zero, suc, ◌+◌, ◌<◌, ◌≤◌, ltb, true, List, map, get_or, Option, Some, None}
use Rattle.std.proofs.Common.{arith, sym, inl, inr, cond, lt-ltb, le-ltb}
use Rattle.std.proofs.lemmas.Bool.{cases_Bool, cases_lt, cond-true, cond-false}
use Rattle.std.proofs.lemmas.Option.{none-some}
use Rattle.cpg_base.specs.Graph.{Graph, item_count, is_frozen}
use Rattle.cpg_base.specs.Limits.{IsWithinLimits}
use Rattle.cpg_base.specs.Numbers.{numbers_below}
use Rattle.cpg_base.proofs.Lists.{get_or-map-below}
use Rattle.cpg_order.specs.Urgency.{IsTopological}
use Rattle.cpg_order.proofs.Moments.{moment}
use Rattle.cpg_run.specs.Frozen.{AreFrozenTimes, WouldHave}
use Rattle.cpg_run.specs.Known.{AreEarly}
use Rattle.cpg_run.specs.Run.{unfrozen_time}
use Rattle.cpg_run.proofs.EarlyTimes.{early_from_low}
use Rattle.cpg_run.proofs.Rising.{bound, AreLow, unfrozen_low}
use Rattle.cpg_run.proofs.RunExists.{a_run}
use Rattle.cpg_run.proofs.RunUnique.{agree_before, unfrozen_same}

-- given: a topological order of a graph within its limits, and the frozen times of that order
module _ (g : Graph) (within : IsWithinLimits g) (order : List ℕ) (topological : IsTopological g order)
    (frozen : List (Option ℕ)) (are : AreFrozenTimes g order frozen) where
  -- the frozen time of an item, if that is before a moment
  abbrev cut_at : ℕ → ℕ → Option ℕ
  cut_at m x = cond (ltb (moment g order x) m) (get_or frozen x None) None

  -- the frozen times before a moment
  abbrev cut : ℕ → List (Option ℕ)
  cut m = map (cut_at m) (numbers_below (item_count g))

  -- the list has for each item its frozen time if that is before the moment, as `cut_at` says
  cut_is : (m x : ℕ) → x < item_count g → get_or (cut m) x None ≡ cut_at m x
  cut_is m x below = get_or-map-below (cut_at m) (item_count g) x None below

  -- an item before the moment keeps its frozen time
  cut_before : (m x : ℕ) → x < item_count g → moment g order x < m → get_or (cut m) x None ≡ get_or frozen x None
  cut_before m x below sooner =
      cut_is m x below ∙ cond-true (ltb (moment g order x) m) _ _ (lt-ltb (moment g order x) m sooner)

  -- an item at the moment or later has no frozen time in the list
  cut_after : (m x : ℕ) → x < item_count g → m ≤ moment g order x → get_or (cut m) x None ≡ None
  cut_after m x below no_sooner =
      cut_is m x below ∙ cond-false (ltb (moment g order x) m) _ _ (le-ltb (moment g order x) m no_sooner)

  -- only frozen items have frozen times
  frozen_if : (x time : ℕ) → get_or frozen x None ≡ Some time → is_frozen g x ≡ true
  frozen_if x time has_time =
      elim (cases_Bool (is_frozen g x)) [
        | inl frozen_x ↦ frozen_x
        | inr thawed ↦ absurd (none-some time (sym (are.others x thawed) ∙ has_time))
      ]

  -- if the frozen times before an item's moment are low, so is its own
  low_by : (m x time : ℕ) → AreLow 0 g order (cut m) → x < item_count g → moment g order x ≤ m →
      get_or frozen x None ≡ Some time →
      time ≤ bound 0 (moment g order x) + 32000000000
  -- Some scenario would have that time (`would`). A run under the earlier frozen times alone (`cut_run`) has the same
  -- unfrozen time there, as the two agree before the item, and times of such a run are low.
  low_by m x time low below no_later has_time =
      let would : WouldHave g order frozen x time =
      (are.each x below (frozen_if x time has_time)).reached time has_time in
      let cut_run = a_run g order (cut m) would.scenario topological in
      let same : unfrozen_time g order would.scenario would.times x ≡ unfrozen_time g order would.scenario cut_run.0 x =
      unfrozen_same g order topological would.scenario would.times cut_run.0 x
      (agree_before g order topological would.scenario would.times cut_run.0 frozen (cut m) would.run cut_run.1
      (moment g order x)
      (λ y i y_sooner. sym (cut_before m y i (omega (arith, y_sooner, no_later))))) below in
      omega (
        arith,
        sym same ∙ would.has,
        unfrozen_low 0 g order (cut m) would.scenario cut_run.0 within topological would.lawful low cut_run.1 x below,
      )

  -- the frozen times before each moment are low
  low_cut : (m : ℕ) → AreLow 0 g order (cut m)
  -- by induction on the moment: before 0 there is none, and one at the moment is low by those before it
  low_cut zero = record {
    low = λ x time below has_time. absurd (none-some time (sym (cut_after 0 x below (omega arith)) ∙ has_time));
  }
  low_cut (suc m) = record {
    low = λ x time below has_time. elim (cases_lt (moment g order x) (suc m)) [
      | inl sooner ↦ low_by m x time (low_cut m) below (omega (arith, sooner))
          (sym (cut_before (suc m) x below sooner) ∙ has_time)
      | inr no_sooner ↦ absurd (none-some time (sym (cut_after (suc m) x below no_sooner) ∙ has_time))
    ];
  }

  -- all frozen times are early, as each is low by those before it
  pub frozen_early : AreEarly frozen
  frozen_early = early_from_low g order frozen within topological are.count
      (record {
        low = λ x time below has_time.
            low_by (moment g order x) x time (low_cut (moment g order x)) below (omega arith) has_time;
      })
