-- The tree of when a node goes on after a process says no more than what the node carries on.
use Rattle.std.proofs.Common.{ℕ, ◌≡◌, Bool, true, false, if◌then◌else◌, List, ◌++◌, flat_map, get_or, Option, None}
use Rattle.std.proofs.Common.{Contains, arith, refl, sym, ap, ◌∙◌, subst, inl, inr}
use Rattle.std.proofs.lemmas.List.Elements.{Contains-append_cases, Contains-append_left, Contains-append_right}
use Rattle.cpg_base.specs.Graph.{Graph}
use Rattle.cpg_base.specs.Activity.{active, activation, is_active}
use Rattle.cpg_base.specs.declared.activation.Activation.{Activation}
use Rattle.cpg_base.proofs.Lists.{Contains-map, Contains-map_parts}
use Rattle.cpg_order.specs.Urgency.{IsTopological}
use Rattle.cpg_base.specs.Order.{before_on_node}
use Rattle.cpg_order.specs.Deciding.{deciding}
use Rattle.cpg_order.specs.Guard.{Guard, outcome_at, way}
use Rattle.cpg_base.specs.Scenario.{Scenario}
use Rattle.cpg_cube.specs.declared.literal.Literal.{Literal}
use Rattle.cpg_cube.specs.declared.column.Column.{Column}
use Rattle.cpg_run.specs.Run.{Times, end_in}
use Rattle.cpg_run.specs.Carried.{decided, heard, passed, carried_at_end}
use Rattle.cpg_run.specs.Known.{AreSmall}
use Rattle.cpg_tree.specs.Space.{HasAtMostFaults}
use Rattle.cpg_tree.specs.Tree.{TreeState}
use Rattle.cpg_expand.specs.Agreeing.{HasValueFrom}
use Rattle.cpg_expand.specs.Ending.{IsReadyTree}
use Rattle.cpg_expand.specs.Guarded.{IsActiveTree, value_known, values_known}
use Rattle.cpg_tree.specs.Later.{time_later}
use Rattle.cpg_expand.proofs.AgreeingTrees.{agrees_weaker}
use Rattle.cpg_expand.proofs.CarriedOn.{end_parts, ready_carried}
use Rattle.cpg_expand.proofs.StartTimes.{later_exact}

-- given: a process whose guard leads to its activation, by conditions that decide it
-- `rows`, `s`, `few`, `t`, `small`: rows, a scenario, and its times, which are below 2 ^ 59
-- `p`, `guard`, `leads`: the guard leads to p's activation there
-- `on_way`: each condition that the guard tests on its way is one that decides p
module _ (g : Graph) (order : List ℕ) (topological : IsTopological g order) (rows : List (List Column)) (s : Scenario)
    (few : HasAtMostFaults g.faults s) (t : Times) (small : AreSmall t) (p : ℕ)
    (guard : Guard)
    (leads : outcome_at guard s.values ≡ activation g s.values p)
    (on_way : (c : ℕ) → Contains (way guard s.values) c → Contains (deciding g s.values p) c) where
  -- the literals of the wait: what earlier processes of the node passed on, what decides p, and what it hears
  abbrev wait_says : List Literal
  wait_says = flat_map (passed g rows s) (before_on_node g order p) ++ decided g s p ++ heard g rows s p

  -- what the node carries on after p: what earlier processes and p itself pass on
  abbrev then_says : List Literal
  then_says = flat_map (passed g rows s) (before_on_node g order p) ++ passed g rows s p

  -- `tree` says from when on p's node goes on, by what the node carries on: from p's end, or if p is inactive from when
  -- the wait is over (`waited`)
  pub ready_line : (chooser : TreeState Bool) (end : TreeState (Option ℕ)) (wait tree : TreeState ℕ) (waited : ℕ) →
      IsActiveTree g.faults guard chooser →
      IsReadyTree g.faults chooser end wait tree →
      HasValueFrom s (carried_at_end g order rows s p) (get_or t.ends p None) end → HasValueFrom s wait_says waited wait
      → HasValueFrom s then_says (if active g s.values p then end_in t p else waited) tree
  ready_line chooser end wait tree waited actives readies ends waits = agrees_weaker s tree
      (values_known s (way guard s.values) ++ time_says) then_says (λ z. z ≡ v) (λ z. z ≡ v) within (λ z equal. equal)
      (readies s few (active g s.values p) (values_known s (way guard s.values)) time_says
      (get_or t.ends p None) waited v chosen by_end by_wait)
    where
      -- what says when the node goes on: p's end if it is active, and else the wait
      time_says : List Literal
      time_says = if active g s.values p then carried_at_end g order rows s p else wait_says

      -- when it goes on: at p's end if it is active, and else when the wait is over
      v : ℕ
      v = if active g s.values p then end_in t p else waited

      -- the chooser says whether p is active, by the conditions on the guard's way
      chosen : HasValueFrom s (values_known s (way guard s.values)) (active g s.values p) chooser
      chosen = subst (λ (a : Activation). HasValueFrom s (values_known s (way guard s.values)) (is_active a) chooser)
          leads (actives s few)

      -- if p is active, its end decides; ends are small, so `time_later` gives them exactly
      by_end : active g s.values p ≡ true →
          HasValueFrom s time_says (get_or t.ends p None) end × (v ≡ time_later 0 (get_or t.ends p None))
      by_end acts = (
        subst (λ (b : Bool). HasValueFrom s (if b then carried_at_end g order rows s p else wait_says)
            (get_or t.ends p None) end) (sym acts) ends,
        ap (λ (b : Bool). if b then end_in t p else waited) acts
            ∙ (let exact = later_exact (get_or t.ends p None) 0 (small.ends p) (omega arith) in omega (arith, exact)),
      )

      -- if p is inactive, the wait decides
      by_wait : active g s.values p ≡ false → HasValueFrom s time_says waited wait × (v ≡ waited)
      by_wait idle = (
        subst (λ (b : Bool). HasValueFrom s (if b then carried_at_end g order rows s p else wait_says) waited wait)
            (sym idle) waits,
        ap (λ (b : Bool). if b then end_in t p else waited) idle,
      )

      -- the literals of the end and those of the wait are carried on by the node
      of_time_says : (b : Bool) → active g s.values p ≡ b → (x : Literal) →
          Contains (if b then carried_at_end g order rows s p else wait_says) x →
          Contains then_says x
      of_time_says true is_b x listed = elim (end_parts g order topological rows s p is_b x listed) [
        | inl passed_before ↦ Contains-append_left (flat_map (passed g rows s) (before_on_node g order p))
            (passed g rows s p) x passed_before
        | inr passed_on ↦ Contains-append_right (flat_map (passed g rows s) (before_on_node g order p))
            (passed g rows s p) x passed_on
      ]
      of_time_says false is_b x listed = ready_carried g order topological rows s p x (inr listed)

      -- all that the tree says is carried on by the node
      within : (x : Literal) → Contains (values_known s (way guard s.values) ++ time_says) x → Contains then_says x
      within x listed = elim (Contains-append_cases (values_known s (way guard s.values)) time_says x listed) [
        | inl in_first ↦ let source = Contains-map_parts (value_known s) (way guard s.values) x in_first in
            ready_carried g order topological rows s p x (inl (subst (Contains (decided g s p)) source.2
            (Contains-map (value_known s) (deciding g s.values p) source.0 (on_way source.0 source.1))))
        | inr in_second ↦ of_time_says (active g s.values p) refl x in_second
      ]
