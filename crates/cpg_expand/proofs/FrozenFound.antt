-- If the latest time that is found for an item is reached in some scenario and exceeded in none, it is the item's
-- frozen time.
use Rattle.std.proofs.Common.{ℕ, ◌<◌, ◌≤◌, ◌≡◌, ◌≢◌, true, List, length, get_or, Option, Some, None, unwrap_or, arith}
use Rattle.std.proofs.Common.{refl, sym, ap, ◌∙◌, get_or-set_same, get_or-set_other}
use Rattle.std.proofs.lemmas.List.{length-set}
use Rattle.std.proofs.lemmas.Option.{none-some}
use Rattle.cpg_base.specs.Graph.{Graph, item_at}
use Rattle.cpg_base.specs.Activity.{item_active}
use Rattle.cpg_base.specs.Scenario.{Scenario, IsScenario}
use Rattle.cpg_order.specs.Urgency.{IsTopological}
use Rattle.cpg_run.specs.Frozen.{WouldHave}
use Rattle.cpg_run.specs.Latest.{IsUnfrozenTime}
use Rattle.cpg_run.specs.Run.{Times, IsRun, unfrozen_time}
use Rattle.cpg_run.proofs.RunExists.{a_run}
use Rattle.cpg_expand.specs.Freezing.{set_if}

-- if two times that are there are equal, so are their numbers
pub some_same : (a b : ℕ) → Some a ≡ Some b → a ≡ b
some_same a b equal = ap (λ o. unwrap_or o 0) equal

-- setting the latest time of an item keeps the number of frozen times
pub set_count : (old : List (Option ℕ)) (x : ℕ) (latest : Option ℕ) → length (set_if old x latest) ≡ length old
set_count old x None = refl
set_count old x (Some time) = length-set old x (Some time)

-- setting the latest time of x changes the frozen time of no other item y
pub set_other : (old : List (Option ℕ)) (x y : ℕ) (latest : Option ℕ) → y ≢ x →
    get_or (set_if old x latest) y None ≡ get_or old y None
set_other old x y None other = refl
set_other old x y (Some time) other = get_or-set_other old x y (Some time) None other

-- if x has no frozen time, it has the latest time once that is set, or none if there is no latest time
pub set_here : (old : List (Option ℕ)) (x : ℕ) (latest : Option ℕ) → x < length old → get_or old x None ≡ None →
    get_or (set_if old x latest) x None ≡ latest
set_here old x None inside unset = unset
set_here old x (Some time) inside unset = get_or-set_same old x (Some time) None inside

-- given: frozen times, an item, and the latest time found for it
module _ (g : Graph) (order : List ℕ) (old : List (Option ℕ)) (x : ℕ) (latest : Option ℕ) where
  -- in each scenario in which the item is active there is a latest time, and its unfrozen time isn't later
  abbrev pub IsAbove : Type 0
  IsAbove = (s : Scenario) → IsScenario g s → (t : Times) → IsRun g order old s t →
      item_active g s.values (item_at g x) ≡ true → (m : ℕ) × (latest ≡ Some m) × (unfrozen_time g order s t x ≤ m)

  -- if there is a latest time, the item's unfrozen time is no earlier in some scenario in which it is active
  abbrev pub IsReachedBy : Type 0
  IsReachedBy =
      (m : ℕ) → latest ≡ Some m → (s : Scenario) × IsScenario g s × (item_active g s.values (item_at g x) ≡ true) ×
      ((t : Times) → IsRun g order old s t → m ≤ unfrozen_time g order s t x)

-- x's frozen time in `new` is the greatest that it would have under `old`, and no other one has changed
pub record IsFound (g : Graph) (order : List ℕ) (old : List (Option ℕ)) (x : ℕ) (new : List (Option ℕ)) : Type 0 where
  -- x has the greatest time that it would have under `old`, or none if it is never active
  pub is : IsUnfrozenTime g order old x (get_or new x None)
  -- no other item's frozen time has changed
  pub same : (y : ℕ) → y ≢ x → get_or new y None ≡ get_or old y None
  -- there are as many as before
  pub long : length new ≡ length old

-- given: an item without a frozen time, and a latest time that no scenario exceeds and one reaches
-- `old`, `x`, `within`, `unset`: the frozen times, in which item x has none yet
-- `latest`, `above`, `reached`: the time found, which no scenario exceeds and one reaches
module _ (g : Graph) (order : List ℕ) (topological : IsTopological g order) (old : List (Option ℕ)) (x : ℕ)
    (within : x < length old) (unset : get_or old x None ≡ None)
    (latest : Option ℕ) (above : IsAbove g order old x latest) (reached : IsReachedBy g order old x latest) where
  -- the latest time is one that x would have in some run
  reached_there : (time : ℕ) → latest ≡ Some time → WouldHave g order old x time
  reached_there time is_latest =
      let reached_in = reached time is_latest in
      let its_run = a_run g order old reached_in.0 topological in
      let up = above reached_in.0 reached_in.1 its_run.0 its_run.1 reached_in.2 in
      record {
        scenario = reached_in.0;
        lawful = reached_in.1;
        times = its_run.0;
        run = its_run.1;
        active = reached_in.2;
        has = both_ways (unfrozen_time g order reached_in.0 its_run.0 x) up.0 time up.2
            (some_same up.0 time (sym up.1 ∙ is_latest)) (reached_in.3 its_run.0 its_run.1);
      }
    where
      -- a time between two equal ones is equal to them
      both_ways : (u m time : ℕ) → u ≤ m → m ≡ time → time ≤ u → u ≡ time
      both_ways u m time in_most is_time in_time = omega (arith, in_most, is_time, in_time)

  -- so it is the greatest time that x would have, or none if x is active in no scenario
  it_is : (o : Option ℕ) → o ≡ latest → IsUnfrozenTime g order old x o
  it_is o is = record {
    reached = λ time is_latest. reached_there time (sym is ∙ is_latest);
    greatest = λ time other is_latest would. let up =
        above would.scenario would.lawful would.times would.run would.active in
        let same = some_same up.0 time (sym up.1 ∙ sym is ∙ is_latest) in omega (arith, up.2, would.has, same);
    none = λ is_latest time would. let up = above would.scenario would.lawful would.times would.run would.active in
        none-some up.0 (sym is_latest ∙ is ∙ up.1);
  }

  -- once the latest time is set, it is what the item would have at most, and nothing else has changed
  pub frozen_found : (new : List (Option ℕ)) → new ≡ set_if old x latest → IsFound g order old x new
  frozen_found new is = record {
    is = it_is (get_or new x None) (ap (λ f. get_or f x None) is ∙ set_here old x latest within unset);
    same = λ y other. ap (λ f. get_or f y None) is ∙ set_other old x y latest other;
    long = ap length is ∙ set_count old x latest;
  }
