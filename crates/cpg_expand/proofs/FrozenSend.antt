-- The tree of a frozen send agrees with what is carried beside it; and a frozen time is the run's.
use Rattle.std.proofs.Common.{ℕ, ◌<◌, ◌≤◌, ◌≡◌, Bool, true, false, if◌then◌else◌, List, [], ◌∷◌, ◌++◌, flat_map, get_or}
use Rattle.std.proofs.Common.{Option, Some, None, option_to_list, Contains, ◌⊎◌, arith, refl, sym, ap, ◌∙◌}
use Rattle.std.proofs.Common.{subst, inl, inr}
use Rattle.std.proofs.lemmas.List.Elements.{Contains-append_left, Contains-append_right}
use Rattle.cpg_base.specs.Numbers.{greatest}
use Rattle.cpg_base.specs.Graph.{Graph, item_count, item_at, is_frozen, producer}
use Rattle.cpg_base.specs.Activity.{active, item_active}
use Rattle.cpg_base.proofs.Lists.{greatest-cons}
use Rattle.cpg_order.specs.Queue.{queued_before}
use Rattle.cpg_base.specs.Scenario.{Scenario}
use Rattle.cpg_cube.specs.declared.literal.Literal.{Literal}
use Rattle.cpg_cube.specs.declared.column.Column.{Column}
use Rattle.cpg_run.specs.Run.{Times, IsRun, unfrozen_time}
use Rattle.cpg_run.specs.Carried.{decided, carried_at_end, carried_at_send, sent_by_value, queued}
use Rattle.cpg_run.proofs.Runs.{time_is}
use Rattle.cpg_tree.specs.Space.{HasAtMostFaults}
use Rattle.cpg_tree.specs.Tree.{TreeState, IsMap}
use Rattle.cpg_expand.specs.Agreeing.{HasValueFrom}
use Rattle.cpg_tree.specs.GraphTrees.{IsTree}
use Rattle.cpg_tree_times.specs.Values.{time_if}
use Rattle.cpg_expand.proofs.AgreeingTrees.{agrees_map, agrees_weaker}
use Rattle.cpg_expand.proofs.GuardTrees.{each_of}
use Rattle.cpg_tree.proofs.GraphTrees.{few_of}

-- given: a tree of where an item goes, which says no more than what decides that
-- `s`, `few`: a scenario within the faults of the graph; `x`: an item
-- `goes`, `of_goes`: the tree of where x goes, which says the literals `says` in that scenario
-- `at_most`: each of these literals is one that decides the producer, or one by which an active producer sends x
module _ (g : Graph) (order : List ℕ) (rows : List (List Column)) (s : Scenario)
    (few : HasAtMostFaults g.faults s) (x : ℕ)
    (says : List Literal) (goes : TreeState Bool)
    (of_goes : HasValueFrom s says (item_active g s.values (item_at g x)) goes)
    (at_most : (l : Literal) → Contains says l → Contains (decided g s (producer g x)) l ⊎
    ((active g s.values (producer g x) ≡ true) × Contains (sent_by_value g s x) l)) where
  -- a tree of one time wherever the item is sent agrees with what is carried at its send
  pub frozen_send_line : is_frozen g x ≡ true → (tree : TreeState (Option ℕ)) (time : ℕ) → IsTree g goes →
      IsMap (λ b z. z ≡ time_if time b) goes tree →
      HasValueFrom s (carried_at_send g order rows s x)
      (if item_active g s.values (item_at g x) then Some time else None) tree
  frozen_send_line frozen tree time of_tree made =
      agrees_weaker s tree says (carried_at_send g order rows s x)
      (λ z. z ≡ time_if time (item_active g s.values (item_at g x)))
      (λ z. z ≡ (if item_active g s.values (item_at g x) then Some time else None)) within (λ z equal. equal)
      (agrees_map s (λ b z. z ≡ time_if time b) goes tree says (λ b. b ≡ item_active g s.values (item_at g x))
      (λ z. z ≡ time_if time (item_active g s.values (item_at g x)))
      (few_of g.faults goes.faults s of_tree.faults few) (each_of g goes.faults goes of_tree.faults of_tree) made
      (λ b z as_active is_made. is_made ∙ ap (time_if time) as_active) of_goes)
    where
      -- what an unfrozen send would carry beside the value by which it is sent
      all : List Literal
      all = flat_map (queued g order rows s) (queued_before g order x) ++ carried_at_end g order rows s (producer g x)

      -- a frozen send carries what decides its producer, and the value by which it is sent
      frozen_says : (l : Literal) → Contains (decided g s (producer g x) ++ sent_by_value g s x) l →
          Contains (carried_at_send g order rows s x) l
      frozen_says l listed =
          subst (λ (f : Bool). Contains ((if f then decided g s (producer g x) else all) ++ sent_by_value g s x) l)
          (sym frozen) listed

      -- so is all that the tree says
      within : (l : Literal) → Contains says l → Contains (carried_at_send g order rows s x) l
      within l listed = elim (at_most l listed) [
        | inl decided_there ↦ frozen_says l
            (Contains-append_left (decided g s (producer g x)) (sent_by_value g s x) l decided_there)
        | inr by_value ↦ frozen_says l
            (Contains-append_right (decided g s (producer g x)) (sent_by_value g s x) l by_value.1)
      ]

-- if item x has the frozen time `time`, and its unfrozen time in the run isn't later, its time in the run is `time` if
-- it is active, and none if it isn't
pub frozen_send_value : (g : Graph) (order : List ℕ) (frozen : List (Option ℕ)) (s : Scenario) (t : Times) →
    IsRun g order frozen s t → (x : ℕ) → x < item_count g → (time : ℕ) →
    get_or frozen x None ≡ Some time →
    (item_active g s.values (item_at g x) ≡ true → unfrozen_time g order s t x ≤ time) →
    (if item_active g s.values (item_at g x) then Some time else None) ≡ get_or t.times x None
frozen_send_value g order frozen s t run x below time is most =
    go (item_active g s.values (item_at g x)) refl ∙ sym (time_is g order frozen s t run x below)
  where
    -- by whether the item is active: only then has it a time, and its frozen time is the greatest of what it waits for
    go : (b : Bool) → item_active g s.values (item_at g x) ≡ b → (if b then Some time else None) ≡
        (if b then Some (greatest (unfrozen_time g order s t x ∷ option_to_list (get_or frozen x None))) else None)
    go true on = ap (λ n. Some n) (
        let as_frozen = ap (λ o. greatest (unfrozen_time g order s t x ∷ option_to_list o)) is in
        let of_two = greatest-cons (unfrozen_time g order s t x) (time ∷ []) in
        let of_one = greatest-cons time [] in
        omega (arith, as_frozen, of_two, of_one, most on))
    go false off = refl
