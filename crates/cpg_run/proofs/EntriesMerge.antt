-- Entries have the times of the runs, and no two match one scenario, so they can be merged.
use Rattle.std.proofs.Common.{ℕ, ◌<◌, ◌≤◌, ◌≡◌, ◌≢◌, Bool, true, List, [], ◌∷◌, length, map, filter, get_or, Contains}
use Rattle.std.proofs.Common.{All, AllPairs, Option, Some, None, option_to_list, arith, refl, sym, ap, ◌∙◌}
use Rattle.std.proofs.Common.{subst, inl, inr}
use Rattle.std.proofs.lemmas.Bool.{cases_Bool, cond-false, both_ways, false_from_ne_true}
use Rattle.std.proofs.lemmas.List.{length-map}
use Rattle.std.proofs.lemmas.List.Elements.{Contains-get_or}
use Rattle.std.proofs.lemmas.List.Kept.{AllPairs-filter}
use Rattle.cpg_base.specs.Graph.{Graph, process_count, item_count, item_at, IsVariable}
use Rattle.cpg_base.specs.Activity.{item_active}
use Rattle.cpg_base.proofs.Lists.{Contains-first, Contains-rest, Contains-cases, Contains-nil, Contains-map}
use Rattle.cpg_base.proofs.Lists.{Contains-map_parts, Contains-filter, Contains-filter_parts, filter_none}
use Rattle.cpg_base.specs.Scenario.{Scenario, IsScenario}
use Rattle.cpg_cube.specs.declared.literal.Literal.{Literal}
use Rattle.cpg_cube.specs.Cube.{matches}
use Rattle.cpg_base.specs.Variable.{top}
use Rattle.cpg_cube.specs.Fit.{IsCube, is_met, lows}
use Rattle.cpg_cube.proofs.CubeLows.{met_by, lows-lawful, lows-match}
use Rattle.cpg_merging.specs.Merged.{AreMergeable}
use Rattle.cpg_cube.specs.declared.column.Column.{Column}
use Rattle.cpg_cube.specs.Column.{times_in}
use Rattle.cpg_run.specs.Run.{Times, IsRun, time_in}
use Rattle.cpg_run.proofs.RunExists.{a_run}
use Rattle.cpg_run.proofs.RunUnique.{run_unique}
use Rattle.cpg_run.proofs.Runs.{time_is, has_time}
use Rattle.cpg_run.specs.Carried.{carried}
use Rattle.cpg_run.specs.Rows.{IsCubeOf, IsEntryIn, AreEntriesOf}
use Rattle.cpg_run.specs.RowLaws.{IsTimed, HaveTimesOf, AreRowsFor, IsSameIn, EntriesHaveTimes}
use Rattle.cpg_run.proofs.CarriedFrom.{carried_holds, carried_known}
use Rattle.cpg_run.proofs.CubesOf.{cube_matches, literals_hold, cube_within, same_least, cube_of, cube_there}
use Rattle.cpg_run.proofs.SameSends.{carried_decides}

-- ---- lists

-- if P holds of each element of `xs`, it holds of all
pub every : {X : Type 0} (P : X → Type 0) (xs : List X) → ((x : X) → Contains xs x → P x) → All P xs
every P xs h k d l = h (get_or xs k d) (Contains-get_or xs k d l)

-- given: a relation R between the elements of a list, and a test p
module _ {X : Type 0} (R : X → X → Type 0) (p : X → Bool) where
  -- ys has at most one element, if all of them are of xs and pass, any two are related, and no two of xs that pass are
  two_at_most : (xs ys : List X) → ((y : X) → Contains ys y → Contains xs y × (p y ≡ true)) → AllPairs R ys →
      ((x y : X) → Contains xs x → Contains xs y → p x ≡ true → p y ≡ true → R x y → ⊥) →
      length ys ≤ 1
  two_at_most xs [] from pairs never = omega arith
  two_at_most xs (y ∷ []) from pairs never = omega arith
  two_at_most xs (y ∷ z ∷ ys) from pairs never =
      let first_parts = from y (Contains-first y (z ∷ ys)) in
      let second_parts = from z (Contains-rest y (z ∷ ys) z (Contains-first z ys)) in
      absurd (never y z first_parts.0 second_parts.0 first_parts.1 second_parts.1
      (pairs 0 1 y (omega arith) (omega arith)))

  -- if any two elements of a list are related, but no two that pass are, at most one passes
  pub one_passes : (xs : List X) → AllPairs R xs →
      ((x y : X) → Contains xs x → Contains xs y → p x ≡ true → p y ≡ true → R x y → ⊥) →
      length (filter p xs) ≤ 1
  one_passes xs pairs never =
      two_at_most xs (filter p xs) (λ y j. Contains-filter_parts p xs y j) (AllPairs-filter R p xs pairs) never

-- a list of at most one element that contains x has x alone
pub the_one : {X : Type 0} (xs : List X) (x : X) → length xs ≤ 1 → Contains xs x → xs ≡ x ∷ []
the_one [] x at_most among = absurd (Contains-nil x among)
the_one (y ∷ []) x at_most among =
    elim (Contains-cases y [] x among) [
      | inl is_head ↦ ap (λ z. z ∷ []) is_head
      | inr none ↦ absurd (Contains-nil x none)
    ]
the_one (y ∷ z ∷ xs) x at_most among = absurd (omega arith)

-- ---- the cube of what is carried in a scenario

-- given: an item whose earlier rows have the times of the runs
-- `timed`: the graph is admitted, and `frozen` has its frozen times. `earlier`: the rows of the items before x have
-- the times of the runs.
module _ (g : Graph) (urgency order : List ℕ) (frozen : List (Option ℕ)) (rows : List (List Column)) (x : ℕ)
    (timed : IsTimed g urgency order frozen) (x_below : x < item_count g)
    (earlier : AreRowsFor g order frozen x rows) where
  -- the graph has at most 128 processes
  few : process_count g ≤ 128
  few = timed.admitted.formed.few_processes

  -- the literals that are carried beside x in a scenario hold in it
  holds_here : (s : Scenario) → item_active g s.values (item_at g x) ≡ true →
      matches (carried g order rows s x) s ≡ true
  holds_here s on = carried_holds g order rows s timed.admitted.topological few x x_below on

  -- given: a scenario in which the item is active, and a cube of what is carried there
  -- `on`: the item is active in s. `is`: the cube has the ranges of the literals that are carried in s, and no
  -- others.
  module _ (s : Scenario) (law : IsScenario g s) (on : item_active g s.values (item_at g x) ≡ true)
      (cube : List Literal) (is : IsCubeOf g.faults (carried g order rows s x) cube) where
    -- the cube is one of the graph: its variables rise, and each is a variable of the graph
    pub cube_known : IsCube g cube
    cube_known = record {
      rising = is.rising;
      known = every (λ (m : Literal). IsVariable g m.variable) cube
          (λ m in_cube. let carried_one = is.spoken m in_cube in
          subst (IsVariable g) carried_one.2
          (carried_known g order rows s timed.admitted.topological few x x_below earlier.cubes on carried_one.0
          carried_one.1));
    }

    -- the cube matches its own scenario
    pub cube_own : matches cube s ≡ true
    cube_own = cube_matches g few (carried g order rows s x) cube is s law (holds_here s on)

    -- some scenario of the graph matches it
    pub cube_met : is_met g.faults cube ≡ true
    cube_met = met_by g few cube cube_known s law cube_own

    -- in each scenario that the cube matches, x is active, has the same time and carries the same
    pub cube_same : (u : Scenario) → IsScenario g u → matches cube u ≡ true → IsSameIn g order frozen rows x s u
    cube_same u lu matched = carried_decides g urgency order frozen rows s u x timed x_below earlier law lu on
        (literals_hold g few (carried g order rows s x) cube is u lu matched)

    -- in each scenario that the cube matches, it is a cube of what is carried there
    pub cube_there_too : (u : Scenario) → IsScenario g u → matches cube u ≡ true →
        IsCubeOf g.faults (carried g order rows u x) cube
    cube_there_too u lu matched = subst (λ ls. IsCubeOf g.faults ls cube) (sym (cube_same u lu matched).carried) is

    -- with the time of x in s, the cube is an entry of its own least scenario
    pub entry_of_least : (time : ℕ) → ((t : Times) → IsRun g order frozen s t → get_or t.times x None ≡ Some time) →
        IsEntryIn g order frozen rows x (lows g cube) (record { time = time; cube = cube })
    entry_of_least time here =
        let lawful = lows-lawful g few cube cube_known cube_met in
        let match = lows-match g few cube cube_known cube_met in
        let same = cube_same (lows g cube) lawful match in
        let least_run = a_run g order frozen s timed.admitted.topological in
        record {
          lawful = lawful;
          active = same.active;
          time = λ t run. sym (same.time least_run.0 t least_run.1 run) ∙ here least_run.0 least_run.1;
          cube = cube_there_too (lows g cube) lawful match;
        }

  -- ---- the entries

  -- given: the entries of the item x
  module _ (entries : List Column) (are : AreEntriesOf g order frozen rows x entries) where
    -- given: one of the entries, e
    module _ (e : Column) (in_entries : Contains entries e) where
      -- the cube of an entry is one of the graph
      entry_known : IsCube g e.cube
      entry_known =
          let its_entry = are.each e in_entries in
          cube_known (lows g e.cube) its_entry.lawful its_entry.active e.cube its_entry.cube

      -- the cube of an entry matches its least scenario
      entry_own : matches e.cube (lows g e.cube) ≡ true
      entry_own =
          let its_entry = are.each e in_entries in
          cube_own (lows g e.cube) its_entry.lawful its_entry.active e.cube its_entry.cube

      -- in each scenario that an entry matches, x is active, and has the same time and carries the same as in the entry's least one
      entry_same : (u : Scenario) → IsScenario g u → matches e.cube u ≡ true →
          IsSameIn g order frozen rows x (lows g e.cube) u
      entry_same =
          let its_entry = are.each e in_entries in
          cube_same (lows g e.cube) its_entry.lawful its_entry.active e.cube its_entry.cube

      -- an entry that matches has the time of the run
      pub entry_time : (u : Scenario) (w : Times) → IsScenario g u → IsRun g order frozen u w →
          matches e.cube u ≡ true →
          get_or w.times x None ≡ Some e.time
      entry_time u w lawful_u other matched =
          let least_run = a_run g order frozen (lows g e.cube) timed.admitted.topological in
          sym ((entry_same u lawful_u matched).time least_run.0 w least_run.1 other) ∙
          (are.each e in_entries).time least_run.0 least_run.1

      -- the cube of an entry that matches is that of what is carried in the scenario
      pub entry_cube : (u : Scenario) → IsScenario g u → matches e.cube u ≡ true →
          IsCubeOf g.faults (carried g order rows u x) e.cube
      entry_cube =
          let its_entry = are.each e in_entries in
          cube_there_too (lows g e.cube) its_entry.lawful its_entry.active e.cube its_entry.cube

    -- at most one entry matches a scenario: two would be cubes of what is carried there, so have the same least scenario
    matches_once : (u : Scenario) → IsScenario g u → length (filter (λ (c : Column). matches c.cube u) entries) ≤ 1
    matches_once u lu = one_passes (λ (d e : Column). lows g d.cube ≢ lows g e.cube)
        (λ (c : Column). matches c.cube u) entries are.apart
        (λ d e i j h k ne.
        ne (same_least g (carried g order rows u x) d.cube e.cube (entry_cube d i u lu h) (entry_cube e j u lu k)))

    -- If the item is active in a scenario, one of the entries matches it. The least scenario of the cube of what is carried there
    -- carries the same, so it has an entry of that cube, and the cube matches the scenario.
    a_match : (u : Scenario) (w : Times) → IsScenario g u → IsRun g order frozen u w →
        item_active g u.values (item_at g x) ≡ true →
        (e : Column) × Contains entries e × (matches e.cube u ≡ true)
    a_match u w lawful_u other on =
        let cube : List Literal = cube_of g.faults (carried g order rows u x) in
        let is = cube_there g.faults (carried g order rows u x) in
        let least : Scenario = lows g cube in
        let known = cube_known u lawful_u on cube is in
        let met = cube_met u lawful_u on cube is in
        let same =
        cube_same u lawful_u on cube is least (lows-lawful g few cube known met) (lows-match g few cube known met) in
        let entry = entry_of_least u lawful_u on cube is (time_in w x) (λ t run. one_time t run) in
        -- the entry whose least scenario this is
        let of_entry = Contains-map_parts (λ (d : Column). lows g d.cube) entries least
        (are.all least (record { time = time_in w x; cube = cube }) entry refl) in
        let there = subst (λ v. IsCubeOf g.faults (carried g order rows v x) of_entry.0.cube) of_entry.2
        (are.each of_entry.0 of_entry.1).cube in (
          of_entry.0,
          of_entry.1,
          cube_matches g few (carried g order rows u x) of_entry.0.cube
              (subst (λ ls. IsCubeOf g.faults ls of_entry.0.cube) same.carried there) u lawful_u (holds_here u on),
        )
      where
        -- the item has the time of the run w in each run of u, as there is just one run
        one_time : (t : Times) → IsRun g order frozen u t → get_or t.times x None ≡ Some (time_in w x)
        one_time t run = subst (λ v. get_or v.times x None ≡ Some (time_in w x))
            (run_unique g order timed.admitted.topological frozen u w t other run)
            (has_time g order frozen u w other x x_below on)

    -- entries have the times of the runs: of an active item one matches, no other does, and it has the item's time; of an inactive
    -- item none matches
    pub entries_times : HaveTimesOf g order frozen x entries
    entries_times u w lawful_u other = elim (cases_Bool (item_active g u.values (item_at g x))) [
      | inl on ↦
          let matched = a_match u w lawful_u other on in
          the_one (times_in entries u) matched.0.time (omega (
            arith,
            length-map (filter (λ (c : Column). matches c.cube u) entries) (λ (c : Column). c.time),
            matches_once u lawful_u,
          ))
          (Contains-map (λ (c : Column). c.time) (filter (λ (c : Column). matches c.cube u) entries) matched.0
          (Contains-filter (λ (c : Column). matches c.cube u) entries matched.0 matched.2 matched.1))
          ∙ sym (ap option_to_list (entry_time matched.0 matched.1 u w lawful_u other matched.2))
      | inr off ↦
          ap (map (λ (c : Column). c.time)) (filter_none (λ (c : Column). matches c.cube u) entries
          (λ e in_entries. false_from_ne_true (matches e.cube u)
          (λ matching. both_ways (item_active g u.values (item_at g x)) off
          (entry_same e in_entries u lawful_u matching).active)))
          ∙ sym (ap option_to_list (time_is g order frozen u w other x x_below ∙ cond-false _ _ _ off))
    ]

    -- the entries can be merged: their cubes are of the graph, within the tops, each matches some scenario, and at most one matches
    -- each
    pub entries_mergeable : AreMergeable g entries
    entries_mergeable = record {
      cubes = every (λ (c : Column). IsCube g c.cube) entries entry_known;
      within = every (λ (c : Column). All (λ (m : Literal). m.high ≤ top g.faults m.variable) c.cube) entries
          (λ e j. every (λ (m : Literal). m.high ≤ top g.faults m.variable) e.cube
          (λ m i. cube_within g.faults (carried g order rows (lows g e.cube) x) e.cube (are.each e j).cube m i));
      met = every (λ (c : Column). (s : Scenario) × IsScenario g s × (matches c.cube s ≡ true)) entries
          (λ e j. (lows g e.cube, (are.each e j).lawful, entry_own e j));
      apart = λ s law. omega (
        arith,
        length-map (filter (λ (c : Column). matches c.cube s) entries) (λ (c : Column). c.time),
        matches_once s law,
      );
    }

-- entries can be merged and have the times of the runs
pub entries_have_times : EntriesHaveTimes
entries_have_times g urgency order frozen rows x entries timed l earlier are = (
  entries_mergeable g urgency order frozen rows x timed l earlier entries are,
  entries_times g urgency order frozen rows x timed l earlier entries are,
)
