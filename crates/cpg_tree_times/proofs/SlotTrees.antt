-- The trees of free slots, made in three steps.
use Rattle.std.proofs.Common.{ℕ, ◌^◌, ◌≡◌, max, Bool, true, false, nat_lt, Option, Some, None, List, if◌then◌else◌}
use Rattle.std.proofs.Common.{arith, refl, sym, ap, ◌∙◌, subst}
use Rattle.cpg_base.specs.Scenario.{Scenario}
use Rattle.cpg_bus.specs.Share.{ShareState, next_of}
use Rattle.cpg_cube.specs.declared.literal.Literal.{Literal}
use Rattle.cpg_tree.specs.Space.{HasAtMostFaults}
use Rattle.cpg_tree.specs.Tree.{Path, TreeState, IsOnPath, HasOnePathEach, IsAsWide, IsAsWideAsBoth, IsMap, IsJoin}
use Rattle.cpg_tree.proofs.OnePath.{the_path}
use Rattle.cpg_tree_times.specs.Values.{slot_at, slot_if, slot_from}

-- the slot asked for, then the later of it and `free`, then that if there is an end: this is the first free slot
slot_steps : (share : ShareState) (free : ℕ) (time : Option ℕ) →
    slot_if (max (slot_at share time) free) time ≡ slot_from share free time
slot_steps share free None = refl
slot_steps share free (Some time) = by_late (nat_lt time (2 ^ 59))
  where
    -- by whether the end is early enough for a slot to be asked for
    by_late : (early : Bool) →
        (if early then Some (max (if early then next_of share time else 0) free) else None)
        ≡ (if early then Some (max (next_of share time) free) else None)
    by_late true = refl
    by_late false = refl

-- ranges as wide as two cubes' are as wide as those that these are as wide as
wide_through : (k : ℕ) (x y a b z : List Literal) → IsAsWide k a x → IsAsWideAsBoth k b a y → IsAsWideAsBoth k z x b →
    IsAsWideAsBoth k z x y
wide_through k x y a b z of_a of_b of_z = record {
  low = λ v. omega (arith, of_a.low v, of_b.low v, of_z.low v);
  high = λ v. omega (arith, of_a.high v, of_b.high v, of_z.high v);
}

-- given: the slot asked for, the later of it and when slots are free, and that where there is an end
-- `share`: the node's share of the bus; `end`, `free`: when the item is there, and when the slots are free
-- `asked`, `both`, `r`: the slot asked for, the later of it and `free`, and that where there is an end
-- `each_asked`, `each_both`: `asked` and `both` have one path for each scenario
-- `first`, `second`, `third`: how each of the three trees is made of those before it
module _ (share : ShareState) (end : TreeState (Option ℕ)) (free asked both : TreeState ℕ)
    (each_asked : HasOnePathEach asked.faults asked.paths) (each_both : HasOnePathEach both.faults both.paths)
    (r : TreeState (Option ℕ))
    (first : IsMap (λ x z. z ≡ slot_at share x) end asked) (second : IsJoin (λ x y z. z ≡ max x y) asked free both)
    (third : IsJoin (λ x y z. z ≡ slot_if y x) end both r) where
  -- given: one scenario, and its paths in the trees
  -- `s`, `few`: the scenario; `x`, `y`, `z`, `on_x`, `on_y`, `on_z`: its paths in `end`, in `free` and in `r`
  module _ (s : Scenario) (few : HasAtMostFaults end.faults s) (x : Path (Option ℕ)) (on_x : IsOnPath end.paths s x)
      (y : Path ℕ) (on_y : IsOnPath free.paths s y) (z : Path (Option ℕ))
      (on_z : IsOnPath r.paths s z) where
    -- the scenario has at most the faults of the tree of slots asked for
    few_asked : HasAtMostFaults asked.faults s
    few_asked = subst (λ (n : ℕ). HasAtMostFaults n s) (sym first.faults) few

    -- its path in that tree
    asked_path : (a : Path ℕ) × IsOnPath asked.paths s a
    asked_path = the_path asked.faults asked.paths each_asked s few_asked

    -- its path in the tree of the later of both
    both_path : (b : Path ℕ) × IsOnPath both.paths s b
    both_path = the_path both.faults both.paths each_both s
        (subst (λ (n : ℕ). HasAtMostFaults n s) (sym second.faults) few_asked)

    -- the value of the last tree is the first free slot after the end
    slot_value : z.1 ≡ slot_from share y.1 x.1
    slot_value =
        let at_asked = asked_path in
        let at_both = both_path in
        third.value s x at_both.0 z few on_x at_both.1 on_z
        ∙ ap (λ (n : ℕ). slot_if n x.1) (second.value s at_asked.0 y at_both.0 few_asked at_asked.1 on_y at_both.1
        ∙ ap (λ (n : ℕ). max n y.1) (first.value s x at_asked.0 few on_x at_asked.1))
        ∙ slot_steps share y.1 x.1

    -- its path says as much as those of the end and of the free slots
    slot_ranges : IsAsWideAsBoth end.faults z.0 x.0 y.0
    slot_ranges =
        let at_asked = asked_path in
        let at_both = both_path in
        wide_through end.faults x.0 y.0 at_asked.0.0 at_both.0.0 z.0 (first.ranges s x at_asked.0 few on_x at_asked.1)
        (subst (λ (n : ℕ). IsAsWideAsBoth n at_both.0.0 at_asked.0.0 y.0) first.faults
        (second.ranges s at_asked.0 y at_both.0 few_asked at_asked.1 on_y at_both.1))
        (third.ranges s x at_both.0 z few on_x at_both.1 on_z)

  -- the three steps together are the first free slots
  pub slots_joined : IsJoin (λ x y z. z ≡ slot_from share y x) end free r
  slots_joined = record {
    faults = third.faults;
    value = λ s x y z few on_x on_y on_z. slot_value s few x on_x y on_y z on_z;
    ranges = λ s x y z few on_x on_y on_z. slot_ranges s few x on_x y on_y z on_z;
  }
