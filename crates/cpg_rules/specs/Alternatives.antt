-- Outcomes that make two inputs of a join live, and how the first such outcome is found along an order.
use Rattle.std.specs.Prelude.{ℕ, ◌≡◌, ◌<◌, Bool, true, false, ◌==◌, nat_lt, if◌then◌else◌, List, [], ◌∷◌, Option, Some}
use Rattle.std.specs.Prelude.{None, IsTrue, get_or, map, length, filter, count_by, replicate}
use Rattle.cpg_base.specs.Numbers.{numbers_below}
use Rattle.cpg_base.specs.Graph.{Graph, process_count, condition_count, process_at, process_of, inputs}
use Rattle.cpg_base.specs.Activity.{live}
use Rattle.cpg_base.specs.Scenario.{Scenario, IsLeast}
use Rattle.cpg_rules.specs.declared.steps.Input.{Input}
use Rattle.cpg_rules.specs.Steps.{ActivationStep}
use Rattle.cpg_rules.specs.Growing.{is_live_in, activation_in, settled, choice}

-- whether an outcome makes at least two inputs of a process live
abbrev pub has_two_live : Graph → List Bool → ℕ → Bool
has_two_live g values p = nat_lt 1 (length (filter (live g values) (inputs g p)))

-- if the process is a join, no outcome makes two of its inputs live
abbrev pub IsSingleJoin : Graph → ℕ → Type 0
IsSingleJoin g p = (values : List Bool) → IsTrue (process_at g p).join → length values ≡ condition_count g →
    has_two_live g values p ≡ false

-- p is the least join that some outcome gives two live inputs, and s the least scenario whose outcome does
pub record AreAlternatives (g : Graph) (order : List ℕ) (p : ℕ) (s : Scenario) : Type 0 where
  -- p is a join of the graph
  pub within : p < process_count g
  pub join : IsTrue (process_at g p).join
  -- no lesser join has two live inputs in any outcome
  pub before : (q : ℕ) → q < p → IsSingleJoin g q
  -- s is the least scenario, along the order, in which two inputs of p are live
  pub least : IsLeast g order (λ t. has_two_live g t.values p ≡ true) s

-- ---- the search

-- whether at least two of these inputs are live by the standings
abbrev pub are_two_live : List (Option Bool) → List Input → Bool
are_two_live standings is = nat_lt 1 (count_by (is_live_in standings) is)

-- the first of two results of a search, if it found something, and otherwise the second
abbrev pub first_some : Option (List (Option Bool)) → Option (List (Option Bool)) → Option (List (Option Bool))
first_some None b = b
first_some (Some a) b = Some a

-- What was found on the way with a true condition. It counts only if the process has a condition to choose (the first
-- argument); otherwise there is no such way.
abbrev pub if_other : Option ℕ → Option (List (Option Bool)) → Option (List (Option Bool))
if_other None b = None
if_other (Some c) b = b

-- The first standings at process p with which two of its inputs are live, and None if there are none. The ways go along
-- the steps; at each condition that has a choice the way with false comes before the way with true.
abbrev pub found_from : ℕ → List ActivationStep → List (Option Bool) → Option (List (Option Bool))
found_from p [] standings = None
found_from p (step ∷ steps) standings =
    if step.process == p
    -- at p itself the search ends: its inputs decide
    then (if are_two_live standings step.inputs then Some standings else None)
    else first_some (found_from p steps (settled standings step false))
    (if_other (choice (activation_in standings step) step.condition) (found_from p steps (settled standings step true)))

-- whether a standing is that of an active process whose condition is true
abbrev pub is_set : Option Bool → Bool
is_set None = false
is_set (Some value) = value

-- the scenario of some standings: a condition is true if the standing of its process says so, and there are no faults
abbrev pub scenario_of : Graph → List (Option Bool) → Scenario
scenario_of g standings = record {
  values = map (λ c.
      is_set (get_or standings (process_of g c) None)) (numbers_below (condition_count g));
  faults = replicate (process_count g) 0;
}
