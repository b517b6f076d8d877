-- One scenario more of a loop over the scenarios: it gives an entry, if it is the least of the entry's cube, and its cube is
-- replaced.
use Rattle.std.proofs.Common.{◌≡◌, ◌≢◌, ◌∙◌, ℕ, ◌+◌, ◌<◌, ◌≤◌, Bool, true, false, if◌then◌else◌, List, [], ◌∷◌, ◌++◌}
use Rattle.std.proofs.Common.{length, get_or, set, take, flat_map, Contains, AllPairs, Option, Some, None}
use Rattle.std.proofs.Common.{is_some, option_to_list, arith, refl, sym, ap, inl, inr, subst, get_or-set_same}
use Rattle.std.proofs.Common.{get_or-set_other, length-set}
use Rattle.std.proofs.lemmas.Bool.{cases_eq, cond-true, cond-false}
use Rattle.std.proofs.lemmas.Grind.{flat_map-append}
use Rattle.std.proofs.lemmas.List.{append-nil, take_more, get_or_default}
use Rattle.std.proofs.Math.ListN.{get_or-append}
use Rattle.std.proofs.Math.Seq.{get_or-append_seam}
use Rattle.cpg_base.specs.Numbers.{greatest}
use Rattle.cpg_base.specs.Graph.{Graph, process_count, item_count, process_at, item_at, is_frozen, is_frozen_item}
use Rattle.cpg_base.specs.Activity.{active, item_active}
use Rattle.cpg_base.proofs.Items.{item_at-start}
use Rattle.cpg_all_runs.specs.Listing.{AreScenarios}
use Rattle.cpg_all_runs.specs.Runs.{AreRuns}
use Rattle.cpg_base.specs.Scenario.{Scenario, IsScenario}
use Rattle.cpg_order.specs.Urgency.{IsTopological}
use Rattle.cpg_base.specs.Order.{before_on_node}
use Rattle.cpg_cube.specs.Fit.{lows}
use Rattle.cpg_cube.specs.declared.literal.Literal.{Literal}
use Rattle.cpg_run.specs.Run.{Times, IsRun, unfrozen_time}
use Rattle.cpg_run.proofs.Runs.{time_is}
use Rattle.cpg_run.proofs.RunUnique.{run_unique}
use Rattle.cpg_cube.specs.declared.column.Column.{Column}
use Rattle.cpg_run.specs.Carried.{number_known, decided, heard, received, executed, passed, carried, carried_by_item}
use Rattle.cpg_list.specs.Learning.{IsTimedIfActive, start_after, received_unless_frozen}
use Rattle.cpg_list.specs.Made.{AreCubesOf, AreCubesUpTo, passed_by}
use Rattle.cpg_list.specs.Narrowing.{IsNarrowed, IsEntryWith, IsEntryOf, IsEntryAt}
use Rattle.cpg_run.specs.Rows.{IsCubeOf}
use Rattle.cpg_list.proofs.CodeCubes.{whole_cube}
use Rattle.cpg_run.proofs.CubesOf.{same_least, cube_of, cube_there}
use Rattle.cpg_run.proofs.EntriesFound.{AreEntriesAmong, not_before_place, passed_inactive, passed_other, taken}

-- ---- entries that are kept

-- an entry that is kept or not for one cube of some literals is so for the literals, as all cubes of them have one least
-- scenario
pub kept_of : (g : Graph) (s : Scenario) (time : ℕ) (literals cube : List Literal) → IsCubeOf g.faults literals cube →
    (r : Option Column) → IsEntryWith g s time cube r →
    IsEntryOf g s time literals r
kept_of g s time literals cube is None h = λ other same least. h (same_least g literals cube other is same ∙ least)
kept_of g s time literals cube is (Some e) h =
    (h.0, subst (IsCubeOf g.faults literals) (sym h.1) is, ap (lows g) h.1 ∙ h.2)

-- a cube without literals, narrowed by literals, is their cube
pub from_whole : (k : ℕ) (literals whole cube : List Literal) → whole ≡ [] → IsNarrowed k literals whole cube →
    IsCubeOf k literals cube
from_whole k literals whole cube is narrowed = narrowed.by [] (subst (IsCubeOf k []) (sym is) (whole_cube k))

-- ---- one start

-- the start of a process is frozen exactly if the process is
pub frozen_start : (g : Graph) (p : ℕ) → p < process_count g → is_frozen g p ≡ (process_at g p).frozen
frozen_start g p within = ap (is_frozen_item g) (item_at-start g p within)

-- given: the rows so far, a scenario s, and a process p
module _ (g : Graph) (rows : List (List Column)) (s : Scenario) (p : ℕ) where
  -- beside the start of a process that isn't frozen, all is carried that its node has learnt
  pub start_plain : (earlier : List Literal) → (process_at g p).frozen ≡ false →
      start_after g rows s p earlier ≡ earlier ++ decided g s p ++ heard g rows s p ++ received g rows s p
  start_plain earlier fails = cond-false _ _ _ fails

  -- a process that isn't frozen counts what it receives
  pub received_plain : (process_at g p).frozen ≡ false → received_unless_frozen g rows s p ≡ received g rows s p
  received_plain fails = cond-false _ _ _ fails

  -- an inactive process passes on what decides it and what its node heard
  pub passed_idle : active g s.values p ≡ false → passed g rows s p ≡ decided g s p ++ heard g rows s p
  passed_idle off =
      ap (λ ls. decided g s p ++ heard g rows s p ++ ls) (cond-false (active g s.values p) (executed g rows s p) [] off)
      ∙ append-nil (decided g s p ++ heard g rows s p)

  -- an active process also passes on its own count and, unless it is frozen, what it receives
  pub passed_active : active g s.values p ≡ true →
      passed g rows s p ≡ decided g s p ++ heard g rows s p
      ++ (received_unless_frozen g rows s p ++ number_known s p ∷ [])
  passed_active on =
      ap (λ ls. decided g s p ++ heard g rows s p ++ ls) (cond-true (active g s.values p) (executed g rows s p) [] on)

  -- a process has a time exactly if it is active
  pub process_active : p < process_count g → (t : Times) → IsTimedIfActive g s t p →
      is_some (get_or t.times p None) ≡ active g s.values p
  process_active within t timed = timed ∙ ap (item_active g s.values) (item_at-start g p within)

-- ---- the entries of one scenario more

-- given: the entries of the item x for the scenarios done so far, and a scenario that isn't one of them, with its run
module _ (g : Graph) (order : List ℕ) (topological : IsTopological g order) (frozen : List (Option ℕ))
    (rows : List (List Column)) (x : ℕ)
    (done : List Scenario) (entries : List Column) (so_far : AreEntriesAmong g order frozen rows x done entries)
    (s : Scenario) (law : IsScenario g s) (t : Times) (run : IsRun g order frozen s t) (new : Contains done s → ⊥) where
  -- With the entry r of the new scenario, if there is one, these are the entries of one scenario more. By cases: an inactive
  -- item has none, nor has a scenario that isn't the least of its cube; any other has one.
  entry_at : (o : Option ℕ) → get_or t.times x None ≡ o → is_some o ≡ item_active g s.values (item_at g x) →
      (r : Option Column) →
      IsEntryAt g s o (carried g order rows s x) r
      → AreEntriesAmong g order frozen rows x (done ++ s ∷ []) (entries ++ option_to_list r)
  -- the item is inactive
  entry_at None at off r entry_is =
      subst (λ es. AreEntriesAmong g order frozen rows x (done ++ s ∷ []) (entries ++ option_to_list es)) (sym entry_is)
      (subst (AreEntriesAmong g order frozen rows x (done ++ s ∷ [])) (sym (append-nil entries))
      (passed_inactive g order frozen rows x done entries so_far s (sym off)))
  -- the scenario isn't the least of its cube
  entry_at (Some time) at on None entry_is =
      subst (AreEntriesAmong g order frozen rows x (done ++ s ∷ [])) (sym (append-nil entries))
      (let literals = carried g order rows s x in
      let cube = cube_of g.faults literals in
      let is = cube_there g.faults literals in
      passed_other g order frozen rows x done entries so_far s cube is (entry_is cube is))
  -- the scenario is the least of its cube
  entry_at (Some time) at on (Some e) entry_is = taken g order frozen rows x done entries so_far s e (record {
    lawful = law;
    active = sym on;
    time = λ u other. ap (λ (w : Times). get_or w.times x None) (run_unique g order topological frozen s u t other run)
        ∙ at ∙ ap Some (sym entry_is.0);
    cube = entry_is.1;
  }) entry_is.2 new

  -- the entry of the item at its time in the run is added, if there is one; an item without a time has none
  pub one_more : IsTimedIfActive g s t x → (r : Option Column) →
      IsEntryAt g s (get_or t.times x None) (carried g order rows s x) r →
      AreEntriesAmong g order frozen rows x (done ++ s ∷ []) (entries ++ option_to_list r)
  one_more timed r entry_is = entry_at (get_or t.times x None) refl timed r entry_is

-- ---- the cubes of one scenario more

-- given: for each scenario its literals before the loop, and those after it
module _ (k : ℕ) (scenarios : List Scenario) (before literals : Scenario → List Literal) where
  -- at first all cubes are those of the literals before
  pub none_done : (cubes : List (List Literal)) → AreCubesOf k scenarios before cubes →
      AreCubesUpTo k scenarios before literals 0 cubes
  none_done cubes are =
      record { count = are.count; done = λ i s h l. absurd (omega (arith, h)); rest = λ i s h l. are.each i s l }

  -- after the last scenario all cubes are those of the new literals
  pub all_done : (n : ℕ) (cubes : List (List Literal)) → length scenarios ≤ n →
      AreCubesUpTo k scenarios before literals n cubes →
      AreCubesOf k scenarios literals cubes
  all_done n cubes at_most are = record {
    count = are.count;
    each = λ i s l. are.done i s
        (omega (arith, at_most, l)) l;
  }

  -- with the cube of the n-th scenario replaced by that of its new literals, n + 1 are done, and the others stay
  pub one_done : (n : ℕ) (cubes : List (List Literal)) (s : Scenario) (cube : List Literal) → n < length scenarios →
      AreCubesUpTo k scenarios before literals n cubes →
      s ≡ get_or scenarios n s
      → IsCubeOf k (literals s) cube → AreCubesUpTo k scenarios before literals (n + 1) (set cubes n cube)
  one_done n cubes s cube within are at is = record {
    count = length-set cubes n cube ∙ are.count;
    done = λ i d h m. elim (cases_eq i n) [
      | inl e ↦ subst (λ j. IsCubeOf k (literals (get_or scenarios j d)) (get_or (set cubes n cube) j [])) (sym e)
          (subst (IsCubeOf k (literals (get_or scenarios n d)))
          (sym (get_or-set_same cubes n cube [] (omega (arith, within, are.count))))
          (subst (λ u. IsCubeOf k (literals u) cube) (at ∙ get_or_default scenarios n s d within) is))
      | inr other ↦ subst (IsCubeOf k (literals (get_or scenarios i d)))
          (sym (get_or-set_other cubes n i cube [] other)) (are.done i d (omega (arith, h, other)) m)
    ];
    rest = λ i d h m. let other : i ≢ n = λ e. omega (arith, h, e) in
        subst (IsCubeOf k (before (get_or scenarios i d))) (sym (get_or-set_other cubes n i cube [] other))
        (are.rest i d (omega (arith, h)) m);
  }

-- the first n + 1 scenarios are the first n and the n-th
pub next_scenario : (scenarios : List Scenario) (n : ℕ) (s : Scenario) → n < length scenarios →
    s ≡ get_or scenarios n s →
    take (n + 1) scenarios ≡ take n scenarios ++ s ∷ []
next_scenario scenarios n s within at = take_more scenarios n s within ∙ ap (λ u. take n scenarios ++ u ∷ []) (sym at)

-- if the first n cubes are those of the first n scenarios and that of the n-th is added, the first n + 1 are
pub push_cube : (k : ℕ) (scenarios : List Scenario) (literals : Scenario → List Literal) (n : ℕ)
    (cubes new : List (List Literal)) (s : Scenario) (cube : List Literal) →
    n < length scenarios →
    length cubes ≡ n
    → ((i : ℕ) (d : Scenario) → i < n → IsCubeOf k (literals (get_or scenarios i d)) (get_or cubes i [])) →
    new ≡ cubes ++ cube ∷ [] → s ≡ get_or scenarios n s → IsCubeOf k (literals s) cube
    → (i : ℕ) (d : Scenario) → i < n + 1 → IsCubeOf k (literals (get_or scenarios i d)) (get_or new i [])
push_cube k scenarios literals n cubes new s cube within long each pushed at is i d h =
    subst (λ cs. IsCubeOf k (literals (get_or scenarios i d)) (get_or cs i [])) (sym pushed) (elim (cases_eq i n) [
      | inl e ↦ subst (λ j. IsCubeOf k (literals (get_or scenarios j d)) (get_or (cubes ++ cube ∷ []) j [])) (sym e)
          (subst (IsCubeOf k (literals (get_or scenarios n d)))
          (sym (ap (λ j. get_or (cubes ++ cube ∷ []) j []) (sym long) ∙ get_or-append_seam cubes cube [] []))
          (subst (λ u. IsCubeOf k (literals u) cube) (at ∙ get_or_default scenarios n s d within) is))
      | inr other ↦ subst (IsCubeOf k (literals (get_or scenarios i d)))
          (sym (get_or-append cubes (cube ∷ []) [] i (omega (arith, h, other, long))))
          (each i d (omega (arith, h, other)))
    ])

-- ---- runs of the scenarios

-- given: a graph, an order and frozen times, under which runs are taken
module _ (g : Graph) (order : List ℕ) (frozen : List (Option ℕ)) where
  -- in a run, an item has a time exactly if it is active
  pub timed_if_active : (s : Scenario) (t : Times) → IsRun g order frozen s t → (x : ℕ) → x < item_count g →
      IsTimedIfActive g s t x
  timed_if_active s t run x within =
      ap is_some (time_is g order frozen s t run x within) ∙ go (item_active g s.values (item_at g x))
      (greatest (unfrozen_time g order s t x ∷ option_to_list (get_or frozen x None)))
    where
      -- an option that is there only if b is true is there exactly if b is true
      go : (b : Bool) (n : ℕ) → is_some (if b then Some n else None) ≡ b
      go true n = refl
      go false n = refl

  -- the run at the place of a scenario is the run of that scenario
  pub run_at : (scenarios : List Scenario) (runs : List Times) → AreRuns g order frozen scenarios runs →
      (n : ℕ) (s : Scenario) (t : Times) → n < length scenarios →
      s ≡ get_or scenarios n s →
      t ≡ get_or runs n t → IsRun g order frozen s t
  run_at scenarios runs are n s t within at is = subst (λ u. IsRun g order frozen u t) (sym at)
      (subst (IsRun g order frozen (get_or scenarios n s)) (sym is) (are.each n s t within))

-- the scenario at a place is one of the list
pub scenario_at : (scenarios : List Scenario) (n : ℕ) (s : Scenario) → n < length scenarios → s ≡ get_or scenarios n s →
    Contains scenarios s
scenario_at scenarios n s within at = (n, within, sym at)

-- the scenario at a place isn't among those before it, as no two are the same
pub new_at : (scenarios : List Scenario) → AllPairs (λ s t. s ≢ t) scenarios → (n : ℕ) (s : Scenario) →
    n < length scenarios → s ≡ get_or scenarios n s → Contains (take n scenarios) s → ⊥
new_at scenarios apart n s within at there = not_before_place scenarios n s apart within
    (subst (Contains (take n scenarios)) at there)

-- what is carried beside the start of p is `start_after` of what the processes before it on its node pass on
pub carried_start : (g : Graph) (order : List ℕ) (rows : List (List Column)) (s : Scenario) (p : ℕ) →
    p < process_count g →
    carried g order rows s p ≡ start_after g rows s p (passed_by g rows (before_on_node g order p) s)
carried_start g order rows s p within = ap (carried_by_item g order rows s p) (item_at-start g p within)

-- the lists that f gives of `xs`, and then that of x, are those that f gives of `xs` with x at its end
pub flat_map_push : {X : Type 0} (f : X → List Literal) (xs : List X) (x : X) →
    flat_map f xs ++ f x ≡ flat_map f (xs ++ x ∷ [])
flat_map_push f xs x = sym (flat_map-append f xs (x ∷ []) ∙ ap (λ z. flat_map f xs ++ z) (append-nil (f x)))

-- ---- one scenario more of all of them

-- given: all scenarios of a graph and their runs, an item x, and a place n of the list
-- `are`: the list has each scenario once; `each_run`: `runs` has the run of each; `at`, `is`: s is the scenario at the
-- place n, and t its run
module _ (g : Graph) (order : List ℕ) (topological : IsTopological g order) (frozen : List (Option ℕ))
    (rows : List (List Column)) (x : ℕ) (within : x < item_count g)
    (scenarios : List Scenario) (runs : List Times) (are : AreScenarios g scenarios)
    (each_run : AreRuns g order frozen scenarios runs)
    (n : ℕ) (s : Scenario) (t : Times) (inside : n < length scenarios) (at : s ≡ get_or scenarios n s)
    (is : t ≡ get_or runs n t) where
  -- the scenario at the place is one of the graph
  pub law_here : IsScenario g s
  law_here = are.lawful s (scenario_at scenarios n s inside at)

  -- the run at the place is the run of the scenario
  pub run_here : IsRun g order frozen s t
  run_here = run_at g order frozen scenarios runs each_run n s t inside at is

  -- the item x has a time in it exactly if it is active
  pub timed_here : IsTimedIfActive g s t x
  timed_here = timed_if_active g order frozen s t run_here x within

  -- with the entry r of the scenario, if there is one, the entries of the first n scenarios are those of the first n + 1
  pub found_more : (entries next : List Column) → AreEntriesAmong g order frozen rows x (take n scenarios) entries →
      (r : Option Column) →
      IsEntryAt g s (get_or t.times x None) (carried g order rows s x) r
      → next ≡ entries ++ option_to_list r → AreEntriesAmong g order frozen rows x (take (n + 1) scenarios) next
  found_more entries next so_far r entry_is same =
      subst (λ ds. AreEntriesAmong g order frozen rows x ds next) (sym (next_scenario scenarios n s inside at))
      (subst (AreEntriesAmong g order frozen rows x (take n scenarios ++ s ∷ [])) (sym same)
      (one_more g order topological frozen rows x (take n scenarios) entries so_far s law_here t run_here
      (new_at scenarios are.apart n s inside at) timed_here r entry_is))

-- the cube at the place n, whose turn it is, is still that of the scenario's literals before
pub cube_here : (k : ℕ) (scenarios : List Scenario) (before literals : Scenario → List Literal) (n : ℕ)
    (cubes : List (List Literal)) (s : Scenario) (cube : List Literal) →
    n < length scenarios →
    s ≡ get_or scenarios n s
    → AreCubesUpTo k scenarios before literals n cubes → cube ≡ get_or cubes n cube → IsCubeOf k (before s) cube
cube_here k scenarios before literals n cubes s cube inside at are read =
    subst (IsCubeOf k (before s)) (sym (read ∙ get_or_default cubes n cube [] (omega (arith, inside, are.count))))
    (subst (λ u. IsCubeOf k (before u) (get_or cubes n [])) (sym at) (are.rest n s (omega arith) inside))
