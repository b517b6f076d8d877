-- V6 at one column: it is broken where an execution of a lower process of the node overlaps the one that the column
-- starts.
use Rattle.std.proofs.Common.{ℕ, ◌+◌, ◌<◌, ◌≤◌, ◌≡◌, Bool, true, false, ◌&&◌, ◌==◌, List, filter, All, Option, arith}
use Rattle.std.proofs.Common.{sym, ap, ◌∙◌, lt-ltb, le-ltb, ltb, eq-eqb}
use Rattle.std.specs.List.{list_any}
use Rattle.std.proofs.lemmas.Bool.{and_left, and_parts, and_right}
use Rattle.std.proofs.lemmas.List.Elements.{All-contains}
use Rattle.cpg_base.specs.Graph.{Graph, process_count, node_of}
use Rattle.cpg_base.specs.Duration.{duration}
use Rattle.cpg_base.specs.Limits.{IsWithinLimits}
use Rattle.cpg_base.specs.Numbers.{numbers_below}
use Rattle.cpg_base.proofs.Lists.{list_any_false, same_any}
use Rattle.cpg_base.specs.Scenario.{Scenario, IsScenario, fault_of}
use Rattle.cpg_base.specs.First.{IsFirst}
use Rattle.cpg_base.proofs.First.{first_same}
use Rattle.cpg_cube.specs.Cube.{matches}
use Rattle.cpg_table.specs.Table.{NodeTable, columns_of, at}
use Rattle.cpg_cube.specs.declared.column.Column.{Column}
use Rattle.cpg_table.specs.Valid.{overlap}
use Rattle.cpg_table.specs.declared.rule.Rule.{Rule}
use Rattle.cpg_check_time.specs.Columns.{breaks_column}
use Rattle.cpg_check_time.specs.Clashes.{overlaps, overlaps_some}
use Rattle.cpg_check_time.specs.Lateness.{ends_after}
use Rattle.cpg_violation.proofs.Tests.{with_true}
use Rattle.cpg_violation.proofs.Columnwise.{any_filter}
use Rattle.cpg_violation.proofs.Durations.{duration_grows, fault_within}
use Rattle.cpg_check_time.proofs.Counts.{duration_some}
use Rattle.cpg_check_time.proofs.Seeking.{and_swap, any_at, both_any}

-- ---- two columns

-- given: column `c` of process `p`, and column `d` of process `q`
module _ (g : Graph) (within : IsWithinLimits g) (p : ℕ) (is_process : p < process_count g) (c : Column) (q : ℕ)
    (d : Column) where
  -- if `d` isn't later, the least scenario in which its execution ends after `c` is the least in which the two overlap:
  -- an execution takes some time, so `d` is before the end of the other
  pub overlap_after : d.time ≤ c.time → (order : List ℕ) (o : Option Scenario) →
      IsFirst g order (λ s. matches c.cube s && (matches d.cube s && ends_after g q d.time c.time s)) o →
      IsFirst g order (overlaps g p c q d) o
  overlap_after first order o is_first = first_same g order
      (λ s. matches c.cube s && (matches d.cube s && ends_after g q d.time c.time s)) (overlaps g p c q d) o
      (λ s _. ap (λ b. matches c.cube s && (matches d.cube s && b))
      (with_true (ends_after g q d.time c.time s) (ltb d.time (c.time + duration g p (fault_of s p)))
      (lt-ltb d.time (c.time + duration g p (fault_of s p))
      (omega (arith, duration_some g within p (fault_of s p) is_process))))) is_first

  -- if `d` is later, the least scenario in which the execution of `c` ends after `d` is the least in which the two
  -- overlap
  pub overlap_before : c.time < d.time → (order : List ℕ) (o : Option Scenario) →
      IsFirst g order (λ s. matches d.cube s && (matches c.cube s && ends_after g p c.time d.time s)) o →
      IsFirst g order (overlaps g p c q d) o
  overlap_before first order o is_first = first_same g order
      (λ s. matches d.cube s && (matches c.cube s && ends_after g p c.time d.time s)) (overlaps g p c q d) o
      (λ s _. and_swap (matches d.cube s) (matches c.cube s) (ends_after g p c.time d.time s)
      ∙ ap (λ b. matches c.cube s && (matches d.cube s && (b && ends_after g p c.time d.time s)))
      (sym (lt-ltb c.time (d.time + duration g q (fault_of s q)) (omega arith)))) is_first

  -- where the two overlap, both columns match
  pub overlaps_both : (s : Scenario) → overlaps g p c q d s ≡ true →
      (matches c.cube s ≡ true) × (matches d.cube s ≡ true)
  overlaps_both s overlapping =
      let parts = and_parts (matches c.cube s) _ overlapping in
      (parts.0, (and_parts (matches d.cube s) _ parts.1).0)

-- ---- the columns of another process

-- given: column `c` of process `p`, and process `q`
module _ (g : Graph) (tables : List NodeTable) (p : ℕ) (c : Column) (q : ℕ) where
  -- if `q` is on the same node, the least scenario in which an execution of `q` overlaps that of `c` is the least in
  -- which the two clash
  pub other_node : node_of g q ≡ node_of g p → (order : List ℕ) (o : Option Scenario) →
      IsFirst g order (λ s. list_any (λ d. overlaps g p c q d s) (columns_of tables q)) o →
      IsFirst g order (overlaps_some g tables p c q) o
  other_node same order o is_first =
      first_same g order (λ s. list_any (λ d. overlaps g p c q d s) (columns_of tables q))
      (overlaps_some g tables p c q) o
      (λ s _. sym (ap (λ b. b && list_any (λ d. overlaps g p c q d s) (columns_of tables q))
      (eq-eqb (node_of g q) (node_of g p) same))) is_first

  -- given: a scenario of a graph of at most 128 processes
  module _ (few : process_count g ≤ 128) (s : Scenario) (lawful : IsScenario g s) where
    -- if `c`'s execution is over before `q`'s first column even if it lasts longest, none of `q` overlaps it
    pub starts_late : p < process_count g → (first : ℕ) → All (λ d. first ≤ d.time) (columns_of tables q) →
        c.time + duration g p g.faults ≤ first →
        overlaps_some g tables p c q s ≡ false
    starts_late p_is first all late = and_right (node_of g q == node_of g p) _
        (list_any_false (λ d. overlaps g p c q d s) (columns_of tables q) (λ d member.
        let from : first ≤ d.time = All-contains (λ (d : Column). first ≤ d.time) (columns_of tables q) d all member in
        let own = duration_grows g p (fault_of s p) g.faults (fault_within g few p p_is s lawful) in
        and_right (matches c.cube s) _ (and_right (matches d.cube s) _
        (and_right (ltb c.time (d.time + duration g q (fault_of s q))) _
        (le-ltb d.time (c.time + duration g p (fault_of s p)) (omega arith))))))

    -- if the execution of `q`'s last column is over by `c` even if it lasts longest, none of `q` overlaps that of `c`
    pub ends_early : q < process_count g → (last : ℕ) → All (λ d. d.time ≤ last) (columns_of tables q) →
        last + duration g q g.faults ≤ c.time →
        overlaps_some g tables p c q s ≡ false
    ends_early q_is last all early = and_right (node_of g q == node_of g p) _
        (list_any_false (λ d. overlaps g p c q d s) (columns_of tables q) (λ d member.
        let by : d.time ≤ last = All-contains (λ (d : Column). d.time ≤ last) (columns_of tables q) d all member in
        let its = duration_grows g q (fault_of s q) g.faults (fault_within g few q q_is s lawful) in
        and_right (matches c.cube s) _ (and_right (matches d.cube s) _
        (and_left _ _ (le-ltb c.time (d.time + duration g q (fault_of s q)) (omega arith))))))

-- ---- the rule

-- given: column `c` of process `p`
module _ (g : Graph) (order : List ℕ) (tables : List NodeTable) (p : ℕ) (is_process : p < process_count g)
    (c : Column) where
  -- whether an execution of `q` that starts at `start` overlaps the one that `c` starts
  abbrev at_start : Scenario → ℕ → ℕ → Bool
  at_start s q start = overlap c.time (c.time + duration g p (fault_of s p)) start (start + duration g q (fault_of s q))

  -- process `q` clashes with `c` exactly where `c` matches, `q` is on the same node, and one of its starts overlaps
  of_process : (s : Scenario) (q : ℕ) →
      overlaps_some g tables p c q s
      ≡ (matches c.cube s && ((node_of g q == node_of g p) && list_any (at_start s q) (at tables q s)))
  of_process s q =
      ap (λ b. (node_of g q == node_of g p) && b)
      (both_any (matches c.cube s) (λ (d : Column). matches d.cube s && at_start s q d.time) (columns_of tables q)
      ∙ ap (λ b. matches c.cube s && b) (sym (any_at tables q s (at_start s q))))
      ∙ and_swap (node_of g q == node_of g p) (matches c.cube s) (list_any (at_start s q) (at tables q s))

  -- some lower process clashes with `c` exactly where `c` breaks V6
  processor_is : (s : Scenario) →
      list_any (λ q. overlaps_some g tables p c q s) (numbers_below p) ≡ breaks_column Rule.Processor g tables p c s
  -- for each lower process it is a start on the same node that overlaps; whether `c` matches is asked once; and V6
  -- keeps the processes of the node first
  processor_is s =
      same_any (λ q. overlaps_some g tables p c q s)
      (λ q. matches c.cube s && ((node_of g q == node_of g p) && list_any (at_start s q) (at tables q s)))
      (numbers_below p) (λ q _. of_process s q)
      ∙ both_any (matches c.cube s) (λ q. (node_of g q == node_of g p) && list_any (at_start s q) (at tables q s))
      (numbers_below p)
      ∙ ap (λ b. matches c.cube s && b) (sym (any_filter (λ q. list_any (at_start s q) (at tables q s))
      (λ q. node_of g q == node_of g p) (numbers_below p)))
      ∙ sym (ap (λ b. matches c.cube s && (b && list_any (λ q. list_any (at_start s q) (at tables q s))
      (filter (λ q. node_of g q == node_of g p) (numbers_below p)))) (lt-ltb p (process_count g) is_process))

  -- the least scenario in which some lower process clashes with `c` is the least in which `c` breaks V6
  pub first_overlap : (o : Option Scenario) →
      IsFirst g order (λ s. list_any (λ q. overlaps_some g tables p c q s) (numbers_below p)) o →
      IsFirst g order (breaks_column Rule.Processor g tables p c) o
  first_overlap o is_first = first_same g order (λ s. list_any (λ q. overlaps_some g tables p c q s) (numbers_below p))
      (breaks_column Rule.Processor g tables p c) o (λ s _. processor_is s) is_first
