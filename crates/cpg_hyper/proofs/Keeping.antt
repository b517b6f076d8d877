-- Scenarios of instances, how long executions last in them, and when they start and end in valid tables.
use Rattle.std.proofs.Common.{map, not, None, ◌≡◌, ℕ, ◌+◌, ◌*◌, ◌<◌, ◌≤◌, Bool, true, false, ◌&&◌, ◌||◌, nat_lt, List}
use Rattle.std.proofs.Common.{[], ◌∷◌, take, drop, filter, sum, Some, Contains, refl, sym, ap, ◌∙◌, subst}
use Rattle.std.proofs.Common.{arith, lt-ltb, ⊎_elim}
use Rattle.std.specs.List.{list_any}
use Rattle.std.proofs.lemmas.Bool.{cases_lt, or_parts, true≢false}
use Rattle.std.proofs.lemmas.List.{length-map, length-take, length-drop, get_or-take, get_or-drop, drop_more}
use Rattle.std.proofs.lemmas.List.Sums.{sum_by-take-drop, sum_by-take-le}
use Rattle.cpg_base.specs.Graph.{Graph, process_count, item_at, process_at, disjunctions}
use Rattle.cpg_base.specs.Activity.{item_active}
use Rattle.cpg_base.specs.Duration.{duration, due, lesser_due}
use Rattle.cpg_base.specs.declared.item.Item.TheVariants.{Start}
use Rattle.cpg_base.specs.declared.process.Process.{Process}
use Rattle.cpg_base.proofs.Lists.{Contains-map_parts, Contains-filter_parts, Contains-map, Contains-filter}
use Rattle.cpg_base.proofs.Lists.{list_any_parts}
use Rattle.cpg_base.specs.Scenario.{Scenario, IsScenario, fault_of}
use Rattle.cpg_cube.specs.Cube.{matches}
use Rattle.cpg_table.specs.Table.{NodeTable, columns_of}
use Rattle.cpg_cube.specs.declared.column.Column.{Column}
use Rattle.cpg_table.specs.Valid.{IsValid, breaks, breaks_present, breaks_inputs_of, breaks_inputs, breaks_due}
use Rattle.cpg_table.specs.declared.rule.Rule.TheVariants.{Present, Inputs, Due}
use Rattle.cpg_hyper.specs.declared.part.Part.{Part}
use Rattle.cpg_hyper.specs.Unrolled.{size_of, unrolled, first_graph}
use Rattle.cpg_hyper.specs.Instances.{part_at, first_process_of, scenario_of}
use Rattle.cpg_hyper.specs.Laws.{InstancesHaveScenarios, InstancesLastAsLong, ValidTablesStartInstances}
use Rattle.cpg_hyper.specs.Laws.{ValidTablesKeepPeriods}
use Rattle.cpg_hyper.proofs.Copies.{are_copies, within_whole}

-- some of the counts add up to no more than all
sum_part : (xs : List ℕ) (n m : ℕ) → sum (take m (drop n xs)) ≤ sum xs
sum_part xs n m = omega (arith, sum_by-take-le (λ x. x) (drop n xs) m, sum_by-take-drop (λ x. x) xs n)

-- what a scenario says of an instance is a scenario of its part
pub have_scenarios : InstancesHaveScenarios
-- the values are as many as the part has conditions, the counts as many as it has processes, and these are some of all faults
have_scenarios whole parts p i s over is_instance is =
    let part = part_at parts p in
    let first = first_process_of whole parts p i in
    let inside = within_whole whole 0 parts p i is_instance in
    record {
      values = length-map (disjunctions part.problem) _;
      faults = omega
          (arith, length-take (size_of part) (drop first s.faults), length-drop first s.faults, is.faults, inside);
      budget = omega (
        arith,
        sum_part s.faults first (size_of part),
        is.budget,
        (over.fitting.alike p (record { period = 0; problem = first_graph [] }) is_instance.part).faults,
      );
    }

-- a process of an instance has as many faults as in the scenario of the instance
fault_same : (whole : ℕ) (parts : List Part) (p i q : ℕ) (s : Scenario) → q < size_of (part_at parts p) →
    fault_of (scenario_of whole parts p i s) q ≡ fault_of s (first_process_of whole parts p i + q)
fault_same whole parts p i q s inside =
    get_or-take (size_of (part_at parts p)) (drop (first_process_of whole parts p i) s.faults) q 0 inside
    ∙ get_or-drop (first_process_of whole parts p i) s.faults q 0

-- an execution in an instance lasts as long as its part's in that scenario
pub last_as_long : InstancesLastAsLong
last_as_long whole parts p i q s is_instance inside is =
    rw (fault_same whole parts p i q s inside, are_copies whole parts p i q is_instance inside) refl

-- ---- valid tables

-- a column has a place in its row, and the test at this place is that of the column
column_there : (cs : List Column) (c : Column) (test : Column → Bool) → Contains cs c →
    (j : ℕ) × (list_any test (take 1 (drop j cs)) ≡ (test c || false))
column_there cs c test (j, inside, is) = (j, rw (drop_more cs j c inside, is) refl)

-- if one of two tests that hold together holds, the other doesn't break the rule
both_false : (a b : Bool) → ((a && b) || false) ≡ false → a ≡ true → b ≡ false
both_false true true none_hold holds = none_hold
both_false true false none_hold holds = refl
both_false false b none_hold holds = cc

-- a number that isn't less than another is at least as great
at_least : (a b : ℕ) → nat_lt a b ≡ false → b ≤ a
at_least a b not_less =
    ⊎_elim (λ (less : a < b). absurd (true≢false (sym (lt-ltb a b less) ∙ not_less)))
    (λ (no_less : b ≤ a). no_less) (cases_lt a b)

-- given: a column of a process that matches in valid tables
-- `s`, `is`: a scenario; `valid`: the tables are valid; `x`, `inside`: a process; `c`, `there`, `match`: a column of
-- it that matches
module _ (g : Graph) (tables : List NodeTable) (s : Scenario) (x : ℕ) (is : IsScenario g s) (valid : IsValid g tables)
    (inside : x < process_count g) (c : Column)
    (there : Contains (columns_of tables x) c) (match : matches c.cube s ≡ true) where
  -- x is the start of the process
  start : item_at g x ≡ Start x
  start = rw (lt-ltb x (process_count g) inside) refl

  -- by V5 the column isn't before the release
  released : (process_at g x).release ≤ c.time
  -- rule V5 asked of this one column: it isn't broken, so its first part, a start before the release, is false
  released =
      let here : take 1 (drop there.0 (columns_of tables x)) ≡ c ∷ [] =
      rw (drop_more (columns_of tables x) there.0 c there.1, there.2) refl in
      let rule : breaks Inputs g tables s x (Some there.0) ≡ false =
      valid.rules Inputs x (Some there.0) s is (omega (arith, inside)) in
      let inputs : breaks_inputs g tables s x c ≡ false =
      both_false (matches c.cube s) (breaks_inputs g tables s x c) (rw here at rule) match in
      let released : breaks_inputs_of g tables s c.time (Start x) ≡ false = rw start at inputs in
      at_least c.time (process_at g x).release (or_parts (nat_lt c.time (process_at g x).release) _ released).0

  -- by V9 the execution ends by its due
  ended : c.time + duration g x (fault_of s x) ≤ due g x
  -- rule V9 asked of this one column: it isn't broken, so the end isn't after the due
  ended =
      let here : take 1 (drop there.0 (columns_of tables x)) ≡ c ∷ [] =
      rw (drop_more (columns_of tables x) there.0 c there.1, there.2) refl in
      let rule : breaks Due g tables s x (Some there.0) ≡ false =
      valid.rules Due x (Some there.0) s is (omega (arith, inside)) in
      let late : breaks_due g s x c ≡ false =
      both_false (matches c.cube s) (breaks_due g s x c) (rw here at rule) match in
      let late2 : nat_lt (due g x) (c.time + duration g x (fault_of s x)) ≡ false =
      rw (lt-ltb x (process_count g) inside) at late in
      at_least (due g x) (c.time + duration g x (fault_of s x)) late2

-- a due is no later than the process's own
lesser_of : (whole own : ℕ) → lesser_due whole (Some own) ≤ own
lesser_of whole own = omega arith

-- in valid tables a start in an instance is at its release or later, and its end comes by its due
pub keep_periods : ValidTablesKeepPeriods
keep_periods whole parts p i q s tables time is_instance q_inside is valid among =
    let graph = unrolled whole parts in
    let part = part_at parts p in
    let number = first_process_of whole parts p i + q in
    let below : number < process_count graph = omega (arith, within_whole whole 0 parts p i is_instance, q_inside) in
    -- the column of the start, which matches in the scenario
    let (c, passed, at_time) = Contains-map_parts (λ (d : Column). d.time)
    (filter (λ (d : Column). matches d.cube s) (columns_of tables number)) time among in
    let (there, match) = Contains-filter_parts (λ (d : Column). matches d.cube s) (columns_of tables number) c passed in
    -- the process is a copy of the part's, with release and deadline a whole number of periods later
    let copy = are_copies whole parts p i q is_instance q_inside in
    let release : (process_at graph number).release ≡ i * part.period + (process_at part.problem q).release =
    ap (λ (d : Process). d.release) copy in
    let own : (process_at graph number).deadline ≡ Some (i * part.period + due part.problem q) =
    ap (λ (d : Process). d.deadline) copy in
    let least : due graph number ≤ i * part.period + due part.problem q =
    subst (λ d. lesser_due whole d ≤ i * part.period + due part.problem q) (sym own)
    (lesser_of whole (i * part.period + due part.problem q)) in
    record {
      released = omega (arith, released graph tables s number is valid below c there match, release, at_time);
      ended = omega (arith, ended graph tables s number is valid below c there match, least, at_time);
    }

-- if some column matches, there is a time of one that does
some_passes : (cs : List Column) (s : Scenario) → list_any (λ (d : Column). matches d.cube s) cs ≡ true → (t : ℕ) ×
    Contains (map (λ (d : Column). d.time) (filter (λ (d : Column). matches d.cube s) cs)) t
some_passes cs s some =
    let (c, there, test) = list_any_parts (λ (d : Column). matches d.cube s) cs some in (
      c.time,
      Contains-map (λ (d : Column). d.time) (filter (λ (d : Column). matches d.cube s) cs) c
          (Contains-filter (λ (d : Column). matches d.cube s) cs c test there),
    )

-- what isn't absent in a scenario is present
present : (a b : Bool) → (a && not b) ≡ false → a ≡ true → b ≡ true
present true true not_missing wanted = refl
present true false not_missing wanted = cc
present false b not_missing wanted = cc

-- the item x is the start of the process
start_at : (g : Graph) (x : ℕ) → x < process_count g → item_at g x ≡ Start x
start_at g x inside = rw (lt-ltb x (process_count g) inside) refl

-- in valid tables an active process of an instance has a start
pub start_instances : ValidTablesStartInstances
start_instances whole parts p i q s tables is_instance q_inside is valid alive =
    let graph = unrolled whole parts in
    let number = first_process_of whole parts p i + q in
    let below : number < process_count graph = omega (arith, within_whole whole 0 parts p i is_instance, q_inside) in
    let rule : breaks_present graph tables s number ≡ false = valid.rules Present number None s is
    (omega (arith, below)) in
    let acting : item_active graph s.values (item_at graph number) ≡ true = rw (start_at graph number below) alive in
    some_passes (columns_of tables number) s (present (item_active graph s.values (item_at graph number))
    (list_any (λ (d : Column). matches d.cube s) (columns_of tables number)) rule acting)
