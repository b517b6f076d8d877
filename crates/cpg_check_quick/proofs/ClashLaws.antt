-- V6 and V7 are sure at an item that is apart from the lower items of its node.
use Rattle.std.proofs.Common.{ℕ, ◌+◌, ◌≤◌, ◌≡◌, ◌⊎◌, true, false, not, ◌&&◌, ◌||◌, ◌==◌, Bool, List, All, Contains}
use Rattle.std.proofs.Common.{filter, arith, refl, sym, ap, ◌∙◌, subst, inl, inr, le-ltb, ne_eqb, eq-eqb}
use Rattle.std.specs.Prelude.{nat_lt}
use Rattle.std.specs.List.{list_any}
use Rattle.std.proofs.lemmas.Bool.{and_left, and_right}
use Rattle.std.proofs.lemmas.List.Elements.{All-contains}
use Rattle.cpg_base.specs.Bus.{next_slot}
use Rattle.cpg_base.specs.Duration.{duration}
use Rattle.cpg_base.specs.Graph.{Graph, home, is_sent, node_of, process_count}
use Rattle.cpg_base.specs.Numbers.{numbers_below}
use Rattle.cpg_base.proofs.Lists.{list_any_false, Contains-filter, Contains-filter_parts, Contains-map_parts}
use Rattle.cpg_base.specs.Scenario.{Scenario, IsScenario, fault_of}
use Rattle.cpg_cube.specs.Cube.{matches}
use Rattle.cpg_table.specs.Table.{NodeTable, columns_of, at}
use Rattle.cpg_cube.specs.declared.column.Column.{Column}
use Rattle.cpg_table.specs.Valid.{overlap}
use Rattle.cpg_table.specs.declared.rule.Rule.{Rule}
use Rattle.cpg_violation.specs.Sure.{IsSure}
use Rattle.cpg_violation.proofs.Tests.{off_where}
use Rattle.cpg_check_quick.specs.Order.{IsApart, execution, sending}
use Rattle.cpg_violation.proofs.SureLaws.{sure_of}

-- each time of item `x` in scenario `s` is that of a column `d` that matches
at_parts : (tables : List NodeTable) (x : ℕ) (s : Scenario) (time : ℕ) → Contains (at tables x s) time →
    (d : Column) × Contains (columns_of tables x) d × (matches d.cube s ≡ true) × (d.time ≡ time)
at_parts tables x s time there =
    let column = Contains-map_parts (λ (c : Column). c.time)
    (filter (λ (c : Column). matches c.cube s) (columns_of tables x)) time there in
    let kept = Contains-filter_parts (λ (c : Column). matches c.cube s) (columns_of tables x) column.0 column.1 in
    (column.0, kept.0, kept.1, column.2)

-- a test that fails at the time of each column `d` of item `x` that matches passes at none of the item's times
none_at : (tables : List NodeTable) (x : ℕ) (s : Scenario) (test : ℕ → Bool) →
    ((d : Column) → Contains (columns_of tables x) d → matches d.cube s ≡ true → test d.time ≡ false) →
    list_any test (at tables x s) ≡ false
none_at tables x s test none = list_any_false test (at tables x s)
    (λ time there. let it = at_parts tables x s time there in sym (ap test it.3) ∙ none it.0 it.1 it.2)

-- ---- V6

-- executions from `a`, lasting `b`, and from `c`, lasting `d`, don't overlap if one is over by the start of the other
no_overlap : (a b c d : ℕ) → (c + d ≤ a) ⊎ (a + b ≤ c) → overlap a (a + b) c (c + d) ≡ false
no_overlap a b c d (inl h) = ap (λ t. t && nat_lt c (a + b)) (le-ltb a (c + d) h)
no_overlap a b c d (inr h) = and_right (nat_lt a (c + d)) (nat_lt c (a + b)) (le-ltb c (a + b) h)

-- an item
module _ (g : Graph) (tables : List NodeTable) (p : ℕ) where
  -- V6 is sure at a message or a broadcast, which has no execution
  pub sure_no_process : process_count g ≤ p → IsSure g tables Rule.Processor p
  sure_no_process at_most = sure_of g tables Rule.Processor p refl
      (λ s c earlier law there m. and_left (nat_lt p (process_count g)) _ (le-ltb p (process_count g) at_most))

  -- V6 is sure at an item that is apart from each lower process of its node: where it and a column of such a process
  -- match, their executions don't overlap
  lower_alone : All (λ q. IsApart (execution g) g tables q p)
      (filter (λ q. node_of g q == node_of g p) (numbers_below p)) →
      IsSure g tables Rule.Processor p
  lower_alone apart = sure_of g tables Rule.Processor p refl
      (λ s c earlier law there m. and_right (nat_lt p (process_count g)) _ (list_any_false
      (λ q. list_any
      (λ start. overlap c.time (c.time + duration g p (fault_of s p)) start (start + duration g q (fault_of s q)))
      (at tables q s))
      (filter (λ q. node_of g q == node_of g p) (numbers_below p))
      (λ q k. none_at tables q s (λ start.
      overlap c.time (c.time + duration g p (fault_of s p)) start (start + duration g q (fault_of s q))) (λ d at n.
      no_overlap c.time (duration g p (fault_of s p)) d.time (duration g q (fault_of s q))
      (All-contains (λ q. IsApart (execution g) g tables q p)
      (filter (λ q. node_of g q == node_of g p) (numbers_below p)) q apart k s c law there m d at n)))))

  -- V6 is sure at process `p` if it is apart from each of `lower`, which are the lower processes of its node
  pub sure_alone : (lower : List ℕ) → lower ≡ filter (λ q. node_of g q == node_of g p) (numbers_below p) →
      All (λ q. IsApart (execution g) g tables q p) lower →
      IsSure g tables Rule.Processor p
  sure_alone lower is apart =
      lower_alone (subst (λ (ys : List ℕ). All (λ q. IsApart (execution g) g tables q p) ys) is apart)

-- ---- V7

-- an item
module _ (g : Graph) (tables : List NodeTable) (x : ℕ) where
  -- V7 is sure at an item that isn't sent
  pub sure_not_sent : is_sent g x ≡ false → IsSure g tables Rule.Slot x
  sure_not_sent fails = sure_of g tables Rule.Slot x refl (λ s c earlier law there m. and_left (is_sent g x) _ fails)

  -- sends at `a` and `c` that last 1, one of which is over by the time of the other, are at different times
  other_time : (a c : ℕ) → (a + 1 ≤ c) ⊎ (c + 1 ≤ a) → (a == c) ≡ false
  other_time a c (inl h) = ne_eqb a c (λ e. omega (arith, h, e))
  other_time a c (inr h) = ne_eqb a c (λ e. omega (arith, h, e))

  -- V7 is sure at an item if at each column that matches a slot of its node starts, and it is apart from each lower
  -- item that the node sends: where a column of both matches, their times differ
  lower_apart : All (λ (c : Column). (s : Scenario) → IsScenario g s → matches c.cube s ≡ true →
      next_slot g (home g x) c.time ≡ c.time) (columns_of tables x)
      → All (λ y. IsApart sending g tables y x)
      (filter (λ y. is_sent g y && (home g y == home g x)) (numbers_below x)) → IsSure g tables Rule.Slot x
  lower_apart starts apart = sure_of g tables Rule.Slot x refl (λ s c earlier law there m.
      let start : next_slot g (home g x) c.time ≡ c.time = All-contains (λ (c : Column). (s : Scenario) →
      IsScenario g s → matches c.cube s ≡ true → next_slot g (home g x) c.time ≡ c.time)
      (columns_of tables x) c starts there s law m in
      and_right (is_sent g x) _ (ap (λ b. not b || list_any
      (λ y. is_sent g y && (home g y == home g x) && list_any (λ t. t == c.time) (at tables y s)) (numbers_below x))
      (eq-eqb (next_slot g (home g x) c.time) c.time start)
      ∙ list_any_false (λ y. is_sent g y && (home g y == home g x) && list_any (λ t. t == c.time) (at tables y s))
      (numbers_below x) (λ y among.
      off_where (is_sent g y && (home g y == home g x)) (list_any (λ t. t == c.time) (at tables y s)) (λ holds.
      none_at tables y s (λ t. t == c.time) (λ d at n. other_time d.time c.time
      (All-contains (λ y. IsApart sending g tables y x)
      (filter (λ y. is_sent g y && (home g y == home g x)) (numbers_below x)) y apart
      (Contains-filter (λ y. is_sent g y && (home g y == home g x)) (numbers_below x) y holds among) s c law
      there m d at n))))))

  -- V7 is sure at item `x` if it is apart from each of `lower`, which are the lower items that its node sends, and if each
  -- column that matches is at the start of a slot
  pub sure_own_slots : (lower : List ℕ) → lower ≡ filter (λ y. is_sent g y && (home g y == home g x)) (numbers_below x)
      → All (λ (c : Column). (s : Scenario) → IsScenario g s → matches c.cube s ≡ true →
      next_slot g (home g x) c.time ≡ c.time) (columns_of tables x) →
      All (λ y. IsApart sending g tables y x) lower → IsSure g tables Rule.Slot x
  sure_own_slots lower is starts apart =
      lower_apart starts (subst (λ (ys : List ℕ). All (λ y. IsApart sending g tables y x) ys) is apart)
