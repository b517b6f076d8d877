-- When V8 is sure at an item: its columns have one time; and when V9 is: each end is early enough.
use Rattle.std.proofs.Common.{ℕ, ◌+◌, ◌-◌, ◌^◌, ◌≤◌, ◌≡◌, true, false, not, ◌&&◌, List, Option, None, Some, Contains}
use Rattle.std.proofs.Common.{All, find, min, arith, refl, sym, ap, ◌∙◌, le-ltb}
use Rattle.std.specs.Prelude.{nat_lt}
use Rattle.std.proofs.Math.Bool.{and-false}
use Rattle.std.proofs.lemmas.Bool.{eq-eqb}
use Rattle.std.proofs.lemmas.List.Elements.{All-contains}
use Rattle.cpg_base.specs.Duration.{duration, due, lesser_due}
use Rattle.cpg_base.specs.Graph.{Graph, is_frozen, process_at, process_count}
use Rattle.cpg_base.specs.Limits.{IsWithinLimits}
use Rattle.cpg_base.proofs.Lists.{find_parts}
use Rattle.cpg_base.specs.Scenario.{Scenario, IsScenario, fault_of}
use Rattle.cpg_cube.specs.Cube.{matches}
use Rattle.cpg_table.specs.Table.{NodeTable, columns_of}
use Rattle.cpg_cube.specs.declared.column.Column.{Column}
use Rattle.cpg_table.specs.Valid.{differs_from, is_possible}
use Rattle.cpg_table.specs.declared.rule.Rule.{Rule}
use Rattle.cpg_violation.specs.Sure.{IsSure}
use Rattle.cpg_violation.proofs.SureLaws.{sure_of}

-- the due of process `p` is at most the deadline
due_le : (g : Graph) (p : ℕ) → due g p ≤ g.deadline
due_le g p = go (process_at g p).deadline
  where
    -- by cases of whether the process has a deadline of its own
    go : (own : Option ℕ) → lesser_due g.deadline own ≤ g.deadline
    go None = omega arith
    go (Some own) = omega arith

-- if an end, capped at the greatest number of 64 bits, is by the due of process `p`, so is the end itself: a due is far
-- below that number
pub by_due : (g : Graph) → IsWithinLimits g → (p end capped limit : ℕ) → capped ≡ min end (2 ^ 64 - 1) →
    limit ≡ due g p → capped ≤ limit → end ≤ limit
by_due g within p end capped limit is by capped_by = omega (arith, is, by, capped_by, due_le g p, within.deadline)

-- given: an item
module _ (g : Graph) (tables : List NodeTable) (x : ℕ) where
  -- V8 is sure at an item that isn't frozen
  pub loose_sure : is_frozen g x ≡ false → IsSure g tables Rule.Frozen x
  loose_sure loose = sure_of g tables Rule.Frozen x refl
      (λ s c earlier lawful member matched. ap
      (λ b. b && differs_from c.time (find (is_possible g) (columns_of tables x))) loose)

  -- V8 is sure at an item whose columns all have one time
  pub frozen_sure : (time : ℕ) → All (λ (c : Column). c.time ≡ time) (columns_of tables x) →
      IsSure g tables Rule.Frozen x
  frozen_sure time all = sure_of g tables Rule.Frozen x refl
      (λ s c earlier lawful member matched. ap (λ b. is_frozen g x && b)
      (same c member (find (is_possible g) (columns_of tables x)) refl)
      ∙ and-false (is_frozen g x))
    where
      -- no column `c` differs from the time of the first possible one, `o`, as all columns have one time
      same : (c : Column) → Contains (columns_of tables x) c → (o : Option Column) →
          find (is_possible g) (columns_of tables x) ≡ o →
          differs_from c.time o ≡ false
      same c member None found = refl
      same c member (Some d) found =
          let d_in = (find_parts (is_possible g) (columns_of tables x) d found).0 in
          ap not (eq-eqb d.time c.time (All-contains (λ (c : Column). c.time ≡ time) (columns_of tables x) d all d_in
          ∙ sym (All-contains (λ (c : Column). c.time ≡ time) (columns_of tables x) c all member)))

  -- V9 is sure at a message or a broadcast
  pub message_sure : process_count g ≤ x → IsSure g tables Rule.Due x
  message_sure past = sure_of g tables Rule.Due x refl (λ s c earlier lawful member matched.
      ap (λ b. b && nat_lt (due g x) (c.time + duration g x (fault_of s x))) (le-ltb x (process_count g) past))

  -- V9 is sure at a process each of whose columns ends by its due in every scenario that it matches
  pub due_sure : All (λ (c : Column). (s : Scenario) → IsScenario g s → matches c.cube s ≡ true →
      c.time + duration g x (fault_of s x) ≤ due g x) (columns_of tables x) →
      IsSure g tables Rule.Due x
  due_sure all = sure_of g tables Rule.Due x refl (λ s c earlier lawful member matched.
      ap (λ b. nat_lt x (process_count g) && b)
      (le-ltb (due g x) (c.time + duration g x (fault_of s x))
      (All-contains (λ (c : Column). (s : Scenario) → IsScenario g s → matches c.cube s ≡ true →
      c.time + duration g x (fault_of s x) ≤ due g x) (columns_of tables x) c all member s lawful matched))
      ∙ and-false (nat_lt x (process_count g)))
