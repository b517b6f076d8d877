-- The tree of a frozen start agrees with what is carried beside it.
use Rattle.std.proofs.Common.{ℕ, ◌<◌, ◌≤◌, ◌≡◌, Bool, true, false, if◌then◌else◌, List, [], ◌∷◌, ◌++◌, flat_map, get_or}
use Rattle.std.proofs.Common.{Option, Some, None, option_to_list, Contains, arith, refl, sym, ap, ◌∙◌, subst}
use Rattle.cpg_base.specs.Numbers.{greatest}
use Rattle.cpg_base.specs.Graph.{Graph, process_at, process_count, item_count}
use Rattle.cpg_base.specs.Activity.{active, activation, is_active, item_active}
use Rattle.cpg_base.specs.declared.activation.Activation.{Activation}
use Rattle.cpg_base.proofs.Items.{item_at-start}
use Rattle.cpg_base.proofs.Lists.{get_or-map-below, greatest-cons, Contains-map, Contains-map_parts}
use Rattle.cpg_order.specs.Deciding.{deciding}
use Rattle.cpg_base.specs.Order.{before_on_node}
use Rattle.cpg_order.specs.Guard.{Guard, outcome_at, way}
use Rattle.cpg_base.specs.Scenario.{Scenario}
use Rattle.cpg_cube.specs.declared.literal.Literal.{Literal}
use Rattle.cpg_cube.specs.declared.column.Column.{Column}
use Rattle.cpg_run.specs.Run.{Times, IsRun, unfrozen_time, time_by}
use Rattle.cpg_run.specs.Carried.{decided, heard, received, passed, carried_at_start}
use Rattle.cpg_tree.specs.Space.{HasAtMostFaults}
use Rattle.cpg_tree.specs.Tree.{TreeState, IsMap}
use Rattle.cpg_expand.specs.Agreeing.{HasValueFrom}
use Rattle.cpg_tree.specs.GraphTrees.{IsTree}
use Rattle.cpg_expand.specs.Guarded.{IsActiveTree, value_known, values_known}
use Rattle.cpg_tree_times.specs.Values.{time_if}
use Rattle.cpg_expand.proofs.AgreeingTrees.{agrees_map, agrees_weaker}
use Rattle.cpg_expand.proofs.GuardTrees.{each_of}
use Rattle.cpg_tree.proofs.GraphTrees.{few_of}

-- given: a process whose guard leads to its activation, by conditions that decide it
-- `s`, `few`: a scenario within the faults of the graph; `p`, `guard`, `leads`: the guard leads to p's activation
-- there
-- `on_way`: each condition that the guard tests on its way is one that decides p
module _ (g : Graph) (order : List ℕ) (rows : List (List Column)) (s : Scenario) (few : HasAtMostFaults g.faults s)
    (p : ℕ) (guard : Guard)
    (leads : outcome_at guard s.values ≡ activation g s.values p)
    (on_way : (c : ℕ) → Contains (way guard s.values) c → Contains (deciding g s.values p) c) where
  -- a tree of one time wherever the process is active agrees with what is carried at its start
  pub frozen_line : (process_at g p).frozen ≡ true →
      (chooser : TreeState Bool) (tree : TreeState (Option ℕ)) (time : ℕ) → IsTree g chooser →
      IsActiveTree g.faults guard chooser →
      IsMap (λ b z. z ≡ time_if time b) chooser tree →
      HasValueFrom s (carried_at_start g order rows s p) (if active g s.values p then Some time else None) tree
  frozen_line frozen chooser tree time of_chooser actives made =
      agrees_weaker s tree (values_known s (way guard s.values)) (carried_at_start g order rows s p)
      (λ z. z ≡ time_if time (active g s.values p))
      (λ z. z ≡ (if active g s.values p then Some time else None)) within (λ z equal. equal)
      (agrees_map s (λ b z. z ≡ time_if time b) chooser tree (values_known s (way guard s.values))
      (λ b. b ≡ active g s.values p) (λ z. z ≡ time_if time (active g s.values p))
      (few_of g.faults chooser.faults s of_chooser.faults few)
      (each_of g chooser.faults chooser of_chooser.faults of_chooser) made
      (λ b z as_active is_made. is_made ∙ ap (time_if time) as_active) chosen)
    where
      -- the chooser says whether p is active, by the conditions on the guard's way
      chosen : HasValueFrom s (values_known s (way guard s.values)) (active g s.values p) chooser
      chosen = subst (λ (a : Activation). HasValueFrom s (values_known s (way guard s.values)) (is_active a) chooser)
          leads (actives s few)

      -- the values of these decide p
      in_decided : (l : Literal) → Contains (values_known s (way guard s.values)) l → Contains (decided g s p) l
      in_decided l listed =
          let condition = Contains-map_parts (value_known s) (way guard s.values) l listed in
          subst (Contains (decided g s p)) condition.2
          (Contains-map (value_known s) (deciding g s.values p) condition.0 (on_way condition.0 condition.1))

      -- a frozen start carries what decides it
      within : (l : Literal) → Contains (values_known s (way guard s.values)) l →
          Contains (carried_at_start g order rows s p) l
      within l listed = subst (λ (f : Bool). Contains (if f then decided g s p else flat_map (passed g rows s)
          (before_on_node g order p) ++ decided g s p ++ heard g rows s p ++ received g rows s p) l)
          (sym frozen) (in_decided l listed)

-- if p has the frozen time `time`, and its unfrozen time in the run isn't later, its time in the run is `time` if it is
-- active, and none if it isn't
pub frozen_value : (g : Graph) (order : List ℕ) (frozen : List (Option ℕ)) (s : Scenario) (t : Times) →
    IsRun g order frozen s t → (p : ℕ) → p < process_count g → (time : ℕ) →
    get_or frozen p None ≡ Some time →
    (active g s.values p ≡ true → unfrozen_time g order s t p ≤ time) →
    (if active g s.values p then Some time else None) ≡ get_or t.times p None
frozen_value g order frozen s t run p below time is most =
    go (active g s.values p) refl ∙ sym (ap (λ ts. get_or ts p None) run.times
    ∙ get_or-map-below (time_by g order frozen s t) (item_count g) p None (omega (arith, below))
    ∙ ap (λ (b : Bool). if b then Some (greatest (unfrozen_time g order s t p ∷ option_to_list (get_or frozen p None)))
    else None) (ap (item_active g s.values) (item_at-start g p below)))
  where
    -- by whether p is active: only then has it a time, and its frozen time is the greatest of what it waits for
    go : (b : Bool) → active g s.values p ≡ b →
        (if b then Some time else None)
        ≡ (if b then Some (greatest (unfrozen_time g order s t p ∷ option_to_list (get_or frozen p None))) else None)
    go true on = ap (λ n. Some n) (
        let as_frozen = ap (λ o. greatest (unfrozen_time g order s t p ∷ option_to_list o)) is in
        let of_two = greatest-cons (unfrozen_time g order s t p) (time ∷ []) in
        let of_one = greatest-cons time [] in
        omega (arith, as_frozen, of_two, of_one, most on))
    go false off = refl
