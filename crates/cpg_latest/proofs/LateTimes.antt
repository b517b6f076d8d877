-- The latest times and ends of active items and processes, and those of inactive ones.
use Rattle.std.proofs.Common.{◌≡◌, ℕ, ◌<◌, ◌≤◌, true, false, List, ◌∷◌, get_or, Option, None, option_map}
use Rattle.std.proofs.Common.{option_to_list, unwrap_or, arith, ap, ◌∙◌}
use Rattle.std.proofs.lemmas.Bool.{cond-true, cond-false}
use Rattle.cpg_base.specs.Numbers.{greatest}
use Rattle.cpg_base.specs.Graph.{Graph, process_count, item_count, item_at}
use Rattle.cpg_base.specs.Activity.{item_active}
use Rattle.cpg_base.specs.Scenario.{Scenario}
use Rattle.cpg_base.proofs.Lists.{get_or-map-below}
use Rattle.cpg_run.specs.Run.{Times, time_in, end_in, time_by, unfrozen_time}
use Rattle.cpg_latest.specs.Latest.{AreLatest, latest_end, latest_end_by}

-- given: the latest times of a scenario's outcome (`late`), and a number n of faults
module _ (g : Graph) (order : List ℕ) (frozen : List (Option ℕ)) (s : Scenario) (late : ℕ → Times)
    (are : AreLatest g order frozen s.values late) (n : ℕ) (few : n ≤ g.faults) where
  -- the latest time of each item is the one that the rules make
  pub late_time : (x : ℕ) → x < item_count g → get_or (late n).times x None ≡ time_by g order frozen s (late n) x
  late_time x within = ap (λ ts. get_or ts x None) (are.times n few)
      ∙ get_or-map-below (time_by g order frozen s (late n)) (item_count g) x None within

  -- the latest end of each process is the one that the rule of the ends makes
  pub late_end : (p : ℕ) → p < process_count g → get_or (late n).ends p None ≡ latest_end_by g late n p
  late_end p within = ap (λ ts. get_or ts p None) (are.ends n few)
      ∙ get_or-map-below (latest_end_by g late n) (process_count g) p None within

  -- an active item has its unfrozen time, or its frozen time if that is later
  pub late_active : (x : ℕ) → x < item_count g → item_active g s.values (item_at g x) ≡ true
      → time_in (late n) x ≡ greatest (unfrozen_time g order s (late n) x ∷ option_to_list (get_or frozen x None))
  late_active x within is_active = ap (λ o. unwrap_or o 0) (late_time x within ∙ cond-true _ _ _ is_active)

  -- an inactive item has no time
  pub late_inactive : (x : ℕ) → x < item_count g → item_active g s.values (item_at g x) ≡ false → time_in (late n) x ≡ 0
  late_inactive x within is_idle = ap (λ o. unwrap_or o 0) (late_time x within ∙ cond-false _ _ _ is_idle)

  -- an active process ends at its latest end
  pub late_end_active : (p : ℕ) → p < process_count g → item_active g s.values (item_at g p) ≡ true →
      end_in (late n) p ≡ latest_end g late n p
  late_end_active p within is_active = ap (λ o. unwrap_or o 0) (late_end p within
      ∙ ap (λ o. option_map (λ start. latest_end g late n p) o) (late_time p (omega arith) ∙ cond-true _ _ _ is_active))

  -- an inactive process has no end
  pub late_end_inactive : (p : ℕ) → p < process_count g → item_active g s.values (item_at g p) ≡ false →
      end_in (late n) p ≡ 0
  late_end_inactive p within is_idle = ap (λ o. unwrap_or o 0) (late_end p within
      ∙ ap (λ o. option_map (λ start. latest_end g late n p) o) (late_time p (omega arith) ∙ cond-false _ _ _ is_idle))
