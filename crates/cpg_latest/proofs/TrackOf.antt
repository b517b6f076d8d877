-- Each scenario has a track: with the values of inactive conditions made false and the same faults it has the same run.
use Rattle.std.proofs.Common.{◌≡◌, ◌∙◌, ℕ, ◌<◌, Bool, true, false, not, ◌&&◌, ◌||◌, List, [], map, filter, length}
use Rattle.std.proofs.Common.{get_or, Option, refl, sym, ap, subst, inl, inr}
use Rattle.std.proofs.lemmas.Bool.{cases_Bool, or_left, or_right}
use Rattle.std.proofs.lemmas.List.{get_or_default}
use Rattle.std.proofs.lemmas.List.FromFn.{length-map-range_with_len}
use Rattle.std.proofs.lemmas.List.Sorted.{Contains-permutation}
use Rattle.cpg_base.specs.Numbers.{numbers_below, greatest}
use Rattle.cpg_base.specs.Graph.{Graph, condition_count, item_count, item_at, process_of}
use Rattle.cpg_base.specs.Activity.{active, item_active}
use Rattle.cpg_base.specs.Scenario.{Scenario, IsScenario}
use Rattle.cpg_base.proofs.Items.{item_cases, process_of_below}
use Rattle.cpg_base.proofs.Lists.{all_from, numbers-Contains, get_or-map-below, Contains-filter}
use Rattle.cpg_order.specs.Deciding.{outcomes}
use Rattle.cpg_order.specs.Track.{is_track, AreTracks}
use Rattle.cpg_order.specs.Urgency.{IsTopological, IsUrgencyOrder}
use Rattle.cpg_order.proofs.Outcomes.{Contains-outcomes}
use Rattle.cpg_run.specs.Run.{Times, IsRun, unfrozen_time}
use Rattle.cpg_latest.specs.Latest.{with_faults}
use Rattle.cpg_latest.specs.Tracks.{track_at}
use Rattle.cpg_latest.proofs.Alike.{AreActiveAlike, active_is_same, item_is_same, bounds_same, run_of_alike}

-- the values of conditions whose processes are active, and false for the others
abbrev pub cleared : Graph → List Bool → List Bool
cleared g o = map (λ c. get_or o c false && active g o (process_of g c)) (numbers_below (condition_count g))

-- a test together with one that passes is the test
and_on : (a b : Bool) → b ≡ true → a ≡ (a && b)
and_on true b holds = sym holds
and_on false b holds = refl

-- a test together with one that fails fails
and_off : (a b : Bool) → b ≡ false → (a && b) ≡ false
and_off true b fails = fails
and_off false b fails = refl

module _ (g : Graph) (urgency : List ℕ) (urgent : IsUrgencyOrder g urgency) (lawful : IsTopological g urgency)
    (s : Scenario) where
  -- a cleared value is the old one, if the process of the condition is active, and else false
  at_condition : (c : ℕ) → c < condition_count g →
      get_or (cleared g s.values) c false ≡ (get_or s.values c false && active g s.values (process_of g c))
  at_condition c within = get_or-map-below (λ c. get_or s.values c false && active g s.values (process_of g c))
      (condition_count g) c false within

  -- the scenario and the one with cleared values agree on what is active in the first
  alike : AreActiveAlike g s (with_faults (cleared g s.values) s.faults)
  alike = record {
    values =
        λ c within acts. and_on (get_or s.values c false) (active g s.values (process_of g c)) acts
        ∙ sym (at_condition c within);
    faults = λ p l acts. refl;
  }

  -- there is still a value for each condition
  long : length (cleared g s.values) ≡ condition_count g
  long = length-map-range_with_len (λ c. get_or s.values c false && active g s.values (process_of g c)) 0
      (condition_count g)

  -- in the cleared outcome a condition is false or its process is active: by whether the process is active in s
  passes : (c : ℕ) → c < condition_count g →
      (not (get_or (cleared g s.values) c false) || active g (cleared g s.values) (process_of g c)) ≡ true
  passes c within = elim (cases_Bool (active g s.values (process_of g c))) [
    | inl acts ↦ or_right (not (get_or (cleared g s.values) c false)) (active g (cleared g s.values) (process_of g c))
        (sym (active_is_same g urgency urgent lawful s (with_faults (cleared g s.values) s.faults) alike
        (process_of g c) (process_of_below g c within)) ∙ acts)
    | inr idle ↦ or_left (not (get_or (cleared g s.values) c false)) (active g (cleared g s.values) (process_of g c))
        (ap not (at_condition c within ∙ and_off (get_or s.values c false) (active g s.values (process_of g c)) idle))
  ]

  -- the cleared values are a track, as each of them is false or its process is active
  cleared_is_track : is_track g (cleared g s.values) ≡ true
  cleared_is_track =
      all_from (λ c. not (get_or (cleared g s.values) c false) || active g (cleared g s.values) (process_of g c))
      (numbers_below (condition_count g))
      (λ c there. passes c (numbers-Contains (condition_count g) c there))

  -- the track at a place has the runs of the scenario, and what they rest on
  pub record HasTrack (tracks : List (List Bool)) : Type 0 where
    -- the place of the track, and that it is one of the tracks
    pub place : ℕ
    pub there : place < length tracks
    -- the track with the faults of s is a scenario too, with the runs and the active items of s
    pub scenario : IsScenario g s → IsScenario g (with_faults (track_at tracks place) s.faults)
    pub run : (order : List ℕ) (frozen : List (Option ℕ)) (t : Times) → IsTopological g order →
        IsRun g order frozen s t →
        IsRun g order frozen (with_faults (track_at tracks place) s.faults) t
    pub active : (x : ℕ) → x < item_count g →
        item_active g s.values (item_at g x) ≡ item_active g (track_at tracks place) (item_at g x)
    pub unfrozen : (order : List ℕ) (t : Times) (x : ℕ) → IsTopological g order → x < item_count g →
        unfrozen_time g order s t x ≡ unfrozen_time g order (with_faults (track_at tracks place) []) t x

  -- the cleared values are the track at the place i, if they are the outcome there
  of_outcome : (tracks : List (List Bool)) (i : ℕ) → i < length tracks → cleared g s.values ≡ track_at tracks i →
      HasTrack tracks
  of_outcome tracks i within is = record {
    place = i;
    there = within;
    scenario = λ law. subst (λ o. IsScenario g (with_faults o s.faults)) is
        (record { values = long; faults = law.faults; budget = law.budget });
    run = λ order frozen t topological run. subst (λ o. IsRun g order frozen (with_faults o s.faults) t) is
        (run_of_alike g urgency urgent lawful s
        (with_faults (cleared g s.values) s.faults) alike order topological frozen t run);
    active = λ x inside. subst (λ o. item_active g s.values (item_at g x) ≡ item_active g o (item_at g x)) is
        (item_is_same g urgency urgent lawful s (with_faults (cleared g s.values) s.faults) alike x
        (item_cases g x inside));
    unfrozen = λ order t x topological inside.
        subst (λ o. unfrozen_time g order s t x ≡ unfrozen_time g order (with_faults o []) t x) is
        (ap greatest (bounds_same g urgency urgent lawful s
        (with_faults (cleared g s.values) s.faults) alike order topological [] t x (item_cases g x inside)));
  }

  -- each scenario has a track with its runs, as the cleared values are a track and the list has all of them
  pub has_track : (tracks : List (List Bool)) → AreTracks g tracks → HasTrack tracks
  has_track tracks all =
      let place =
      Contains-permutation (filter (is_track g) (outcomes (condition_count g))) tracks (cleared g s.values) all.all
      (Contains-filter (is_track g) (outcomes (condition_count g)) (cleared g s.values) cleared_is_track
      (Contains-outcomes (condition_count g) (cleared g s.values) long)) in
      of_outcome tracks place.0 place.1 (sym (get_or_default tracks place.0 [] (cleared g s.values) place.1 ∙ place.2))
