-- Delays: how long they are at most, and which columns are late by them.
use Rattle.std.proofs.Common.{ℕ, ◌+◌, ◌<◌, ◌≤◌, ◌≡◌, ◌^◌, true, false, ◌&&◌, List, length, Option, arith, ap, inl, inr}
use Rattle.std.proofs.Common.{lt-ltb, le-ltb, All}
use Rattle.std.specs.Prelude.{nat_lt}
use Rattle.std.specs.List.{list_any}
use Rattle.std.proofs.lemmas.Bool.{cases_lt, and_parts, and_right}
use Rattle.std.proofs.lemmas.List.Elements.{All-contains}
use Rattle.cpg_base.proofs.Lists.{list_any_false}
use Rattle.std.proofs.lemmas.List.{get_or_past}
use Rattle.cpg_base.specs.Bus.{slot_length, slot_place}
use Rattle.cpg_base.specs.Duration.{duration}
use Rattle.cpg_base.specs.Graph.{Graph, process_count}
use Rattle.cpg_base.specs.declared.process.Slot.{Slot}
use Rattle.cpg_base.specs.Limits.{IsWithinLimits}
use Rattle.cpg_base.specs.Scenario.{Scenario, IsScenario, fault_of}
use Rattle.cpg_base.specs.First.{IsFirst}
use Rattle.cpg_base.proofs.First.{first_same}
use Rattle.cpg_cube.specs.Cube.{matches}
use Rattle.cpg_cube.specs.declared.literal.Literal.{Literal}
use Rattle.cpg_cube.specs.declared.column.Column.{Column}
use Rattle.cpg_check_time.specs.declared.delays.Delay.{Delay}
use Rattle.cpg_check_time.specs.Delays.{IsMost, done_at, is_late, delays}
use Rattle.cpg_check_time.proofs.Seeking.{both_any}
use Rattle.cpg_violation.proofs.Tests.{with_true}
use Rattle.cpg_violation.proofs.Durations.{duration_grows, fault_within}

-- in a graph within its limits, a node's slot is shorter than 2^40; a node without one has length 0
pub slot_short : (g : Graph) → IsWithinLimits g → (node : ℕ) → slot_length g node < 2 ^ 40
slot_short g within node = elim (cases_lt (slot_place g node) (length g.slots)) [
  | inl inside ↦ omega (
    arith,
    (within.slots (slot_place g node) (record { node = 0; length = 0; bytes = 0 }) inside).length,
  )
  | inr past ↦ let none : slot_length g node ≡ 0 = ap (λ (s : Slot). s.length)
      (get_or_past g.slots (slot_place g node) (record { node = 0; length = 0; bytes = 0 }) past) in
      omega arith
]

-- an execution of process `p` that starts at `time` ends latest with all faults of the graph
pub most_faults : (g : Graph) → process_count g ≤ 128 → (p : ℕ) → p < process_count g → (s : Scenario) (time : ℕ) →
    IsScenario g s →
    time + duration g p (fault_of s p) ≤ time + duration g p g.faults
most_faults g few p is_process s time lawful =
    omega (arith, duration_grows g p (fault_of s p) g.faults (fault_within g few p is_process s lawful))

-- if a frame of column `c` is there only after the time, the column is late wherever it matches, so the least scenario
-- that it and the cube match is the answer
pub slot_first : (g : Graph) (order : List ℕ) (cube : List Literal) (c : Column) (length time : ℕ) →
    time < c.time + length →
    (o : Option Scenario) →
    IsFirst g order (λ s. matches cube s && matches c.cube s) o
    → IsFirst g order (λ s. matches cube s && (matches c.cube s && nat_lt time (c.time + length))) o
slot_first g order cube c length time late o is_first = first_same g order (λ s. matches cube s && matches c.cube s)
    (λ s. matches cube s && (matches c.cube s && nat_lt time (c.time + length))) o
    (λ s _. ap (λ b. matches cube s && b) (with_true (matches c.cube s) _ (lt-ltb time (c.time + length) late)))
    is_first

-- given: the cube that has to match as well, what the columns begin, and the time by which it should be done
module _ (g : Graph) (cube : List Literal) (delay : Delay) (time : ℕ) where
  -- where `delays` is true, both the cube and the column match
  pub delays_both : (s : Scenario) (d : Column) → delays g cube delay time d s ≡ true →
      (matches cube s ≡ true) × (matches d.cube s ≡ true)
  delays_both s d delayed =
      let parts = and_parts (matches cube s) (is_late g delay time d s) delayed in
      (parts.0, (and_parts (matches d.cube s) (nat_lt time (done_at g s delay d.time)) parts.1).0)

  -- whether the cube matches may be asked once instead of for each column, so the answer is the same
  pub first_delay : (order : List ℕ) (columns : List Column) (o : Option Scenario) →
      IsFirst g order (λ s. list_any (λ d. delays g cube delay time d s) columns) o →
      IsFirst g order (λ s. matches cube s && list_any (λ d. is_late g delay time d s) columns) o
  first_delay order columns o is_first = first_same g order (λ s. list_any (λ d. delays g cube delay time d s) columns)
      (λ s. matches cube s && list_any (λ d. is_late g delay time d s) columns) o
      (λ s _. both_any (matches cube s) (λ d. is_late g delay time d s) columns) is_first

  -- if no column is after `last`, and what begins then is done by the time even if it takes longest, no column is late
  pub never_delays : (most last : ℕ) → IsMost g delay most → (columns : List Column) →
      All (λ d. d.time ≤ last) columns → last + most ≤ time → (s : Scenario) →
      IsScenario g s →
      (matches cube s && list_any (λ d. is_late g delay time d s) columns) ≡ false
  never_delays most last is columns all early s lawful =
      and_right (matches cube s) _ (list_any_false (λ d. is_late g delay time d s) columns (λ d member.
      let by : d.time ≤ last = All-contains (λ (d : Column). d.time ≤ last) columns d all member in
      let done = is s d.time lawful in
      and_right (matches d.cube s) _ (le-ltb time (done_at g s delay d.time) (omega arith))))
