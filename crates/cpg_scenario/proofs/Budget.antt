-- The counts and lengths of a document: when they keep the budget of faults and the durations, and that they then are
-- a scenario to play.
use Rattle.std.proofs.Common.{ℕ, ℤ, ◌+◌, ◌<◌, ◌≤◌, ◌≡◌, ◌⊎◌, Bool, true, false, List, map, sum_by, sym, ap, ap₂, ◌∙◌}
use Rattle.std.proofs.Common.{⊎_elim, arith, pos, negsuc, true≢false, Option, Some, None, get_or, subst}
use Rattle.std.specs.Prelude.{nat_le}
use Rattle.std.specs.List.{list_all}
use Rattle.std.proofs.lemmas.Bool.{and_parts, and_from, and_left, and_right, leb-true, le-leb}
use Rattle.std.proofs.lemmas.List.{length-map}
use Rattle.std.proofs.lemmas.List.FromFn.{length-range_with_len}
use Rattle.std.proofs.lemmas.List.Sums.{sum-map}
use Rattle.toml.specs.Data.{Members}
use Rattle.cpg_base.specs.Limits.{IsProcessWithin, IsWithinLimits}
use Rattle.cpg_scenario.specs.declared.reading.Played.{Played}
use Rattle.cpg_base.specs.Numbers.{numbers_below}
use Rattle.cpg_base.specs.Graph.{Graph, process_count, condition_count, process_at}
use Rattle.cpg_base.specs.Duration.{duration}
use Rattle.cpg_base.specs.Scenario.{Scenario, IsScenario, fault_of, full_lengths}
use Rattle.cpg_base.proofs.Lists.{same_map, numbers-Contains, get_or-map-below, from_all, Contains-numbers}
use Rattle.cpg_base.specs.Natural.{natural}
use Rattle.cpg_scenario.specs.File.{is_natural, count_given, count_of, keeps_budget, scenario_of, keeps_lengths}
use Rattle.cpg_scenario.specs.File.{lengths_of, length_or, length_given, is_length_if, IsPlayed}
use Rattle.cpg_scenario.proofs.Filling.{all_pass, one_fails, over_budget}

-- a scenario with these values and faults is the record of them
pub scenario_is : (s : Scenario) (values : List Bool) (faults : List ℕ) → s.values ≡ values → s.faults ≡ faults →
    s ≡ record { values = values; faults = faults }
scenario_is s values faults same_values same_faults =
    ap₂ (λ (v : List Bool) (f : List ℕ). let t : Scenario = record { values = v; faults = f } in t)
    same_values same_faults

-- a length that passes its test, or `longest` if none is given, is from 1 to `longest`
given_within : (longest : ℕ) (given : Option ℤ) → 1 ≤ longest → is_length_if longest given ≡ true →
    (1 ≤ length_or longest given) × (length_or longest given ≤ longest)
given_within longest None at_most is_true = (at_most, omega arith)
given_within longest (Some (pos n)) at_most is_true = let parts = and_parts (nat_le 1 n) (nat_le n longest) is_true in
    (leb-true 1 n parts.0, leb-true n longest parts.1)
given_within longest (Some (negsuc n)) at_most is_true = absurd (true≢false (sym is_true))

-- given: the members of a scenario that is read for a graph
module _ (g : Graph) (ms : Members) where
  -- If the counts before process n leave `left` of the budget, and n is given a count below 0 or above that, the test
  -- of the counts fails: in its first part, or as the sum is too great.
  pub budget_broken : (n left : ℕ) (given : ℤ) → n < process_count g → given ≡ count_given g ms n →
      left + sum_by (count_of g ms) (numbers_below n) ≡ g.faults →
      (is_natural given ≡ false) ⊎
      (left < natural given) → keeps_budget g ms ≡ false
  budget_broken n left given below is total cause = ⊎_elim
      (λ (k : is_natural given ≡ false). and_left _ _
      (one_fails (λ p. is_natural (count_given g ms p)) (process_count g) n below (ap is_natural (sym is) ∙ k)))
      (λ (k : left < natural given). and_right _ _ (over_budget (count_of g ms)
      (process_count g) n g.faults left below total (let same = ap natural is in omega arith)))
      cause

  -- if no count is below 0, and all together are within the budget, the test of the counts passes
  pub budget_kept : (left : ℕ) → ((p : ℕ) → p < process_count g → is_natural (count_given g ms p) ≡ true) →
      left + sum_by (count_of g ms) (numbers_below (process_count g)) ≡ g.faults →
      keeps_budget g ms ≡ true
  budget_kept left h total = and_from _ _
      (all_pass (λ p. is_natural (count_given g ms p)) (process_count g) h)
      (le-leb (sum_by (count_of g ms) (numbers_below (process_count g))) g.faults (omega arith))

  -- the scenario of a document whose counts pass their test is one of the graph
  pub is_scenario : keeps_budget g ms ≡ true → IsScenario g (scenario_of g ms)
  is_scenario kept = record {
    values = length-map _ _ ∙ length-range_with_len 0 (condition_count g);
    faults = length-map _ _ ∙ length-range_with_len 0 (process_count g);
    budget = let within : sum_by (count_of g ms) (numbers_below (process_count g)) ≤ g.faults =
        leb-true _ _ (and_parts (list_all (λ p. is_natural (count_given g ms p)) (numbers_below (process_count g)))
        (nat_le (sum_by (count_of g ms) (numbers_below (process_count g))) g.faults) kept).1 in
        let total = sum-map (count_of g ms) (numbers_below (process_count g)) in
        omega arith;
  }

  -- the full lengths of a document's scenario are the durations with its counts
  pub full_are : full_lengths g (scenario_of g ms)
      ≡ map (λ p. duration g p (count_of g ms p)) (numbers_below (process_count g))
  full_are = same_map (λ p. duration g p (fault_of (scenario_of g ms) p)) (λ p. duration g p (count_of g ms p))
      (numbers_below (process_count g))
      (λ p c. ap (duration g p)
      (get_or-map-below (count_of g ms) (process_count g) p 0 (numbers-Contains (process_count g) p c)))

  -- a duration is at least 1, as the wcet is
  takes_time : IsWithinLimits g → (p f : ℕ) → p < process_count g → 1 ≤ duration g p f
  takes_time within p f below = let at : IsProcessWithin _ (process_at g p) = within.processes p _ below in
      omega (arith, at.works)

  -- If the lengths of the document pass their test, the length of process q is at least 1, and at most the duration
  -- of q with the faults that the document gives it.
  within_length : keeps_lengths g ms ≡ true → IsWithinLimits g → (q : ℕ) → q < process_count g →
      (1 ≤ get_or (lengths_of g ms) q 0) ×
      (get_or (lengths_of g ms) q 0 ≤ duration g q (fault_of (scenario_of g ms) q))
  within_length kept within q below =
      let is = get_or-map-below (λ p. length_or (duration g p (count_of g ms p)) (length_given g ms p))
      (process_count g) q 0 below in
      let few = ap (duration g q) (get_or-map-below (count_of g ms) (process_count g) q 0 below) in
      let within_duration =
      given_within (duration g q (count_of g ms q)) (length_given g ms q) (takes_time within q (count_of g ms q) below)
      (from_all (λ p. is_length_if (duration g p (count_of g ms p)) (length_given g ms p))
      (numbers_below (process_count g)) q kept (Contains-numbers (process_count g) q below)) in (
        subst (λ n. 1 ≤ n) (sym is) within_duration.0,
        subst (λ n. n ≤ duration g q (fault_of (scenario_of g ms) q)) (sym is)
            (subst (λ n. length_or (duration g q (count_of g ms q)) (length_given g ms q) ≤ n)
            (sym few) within_duration.1),
      )

  -- if the counts and the lengths pass their tests, the document's scenario and lengths can be played
  pub is_played : IsWithinLimits g → keeps_budget g ms ≡ true → keeps_lengths g ms ≡ true →
      (s : Scenario) (ls : List ℕ) → s ≡ scenario_of g ms →
      ls ≡ lengths_of g ms →
      IsPlayed g (record { scenario = s; lengths = ls })
  is_played within budget kept s ls same_scenario same_lengths =
      let made : IsPlayed g (record { scenario = scenario_of g ms; lengths = lengths_of g ms }) = record {
        scenario = is_scenario budget;
        count = length-map _ _ ∙ length-range_with_len 0 (process_count g);
        lengths = within_length kept within;
      } in
      subst (λ (p : Played). IsPlayed g p) (sym
      (ap₂ (λ (t : Scenario) (l : List ℕ). let p : Played = record { scenario = t; lengths = l } in p)
      same_scenario same_lengths)) made
