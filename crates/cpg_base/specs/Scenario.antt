-- A scenario: a value for each condition, and a count of faults for each process.
use Rattle.std.specs.Prelude.{ℕ, ◌-◌, ◌≡◌, ◌≤◌, Bool, true, false, List, length, sum, get_or, if◌then◌else◌, nat_lt}
use Rattle.std.specs.Prelude.{replicate, map, [], ◌∷◌, Option, Some, None}
use Rattle.cpg_base.specs.Numbers.{numbers_below, is_below}
use Rattle.cpg_base.specs.Graph.{Graph, process_count, condition_count, condition_of}
use Rattle.cpg_base.specs.Duration.{duration}
use Rattle.std.specs.List.{flat_map}

-- a scenario, of whatever graph
pub record Scenario : Type 0 where
  -- the value of each condition, by its number
  pub values : List Bool
  -- the fault count of each process, by its number
  pub faults : List ℕ

-- the scenario is one of the graph
pub record IsScenario (g : Graph) (s : Scenario) : Type 0 where
  -- there is a value for each condition
  pub values : length s.values ≡ condition_count g
  -- there is a fault count for each process
  pub faults : length s.faults ≡ process_count g
  -- there are no more faults in all than the graph allows
  pub budget : sum s.faults ≤ g.faults

-- no faults, and every value false
abbrev pub zero_scenario : Graph → Scenario
zero_scenario g = record { values = replicate (condition_count g) false; faults = replicate (process_count g) 0 }

-- a condition's value as the number of its variable
abbrev pub number_of_value : Bool → ℕ
number_of_value false = 0
number_of_value true = 1

-- how many faults a process has in a scenario, and 0 if there is no such process
abbrev pub fault_of : Scenario → ℕ → ℕ
fault_of s p = get_or s.faults p 0

-- The number that a variable has in a scenario: below 128 a fault count, from 128 on a value as 0 or 1. It is 0 if the
-- scenario has no such variable.
abbrev pub number_of : Scenario → ℕ → ℕ
number_of s v = if nat_lt v 128 then fault_of s v else number_of_value (get_or s.values (v - 128) false)

-- how long the execution of each process lasts at most in a scenario, by the process's number
abbrev pub full_lengths : Graph → Scenario → List ℕ
full_lengths g s = map (λ p. duration g p (fault_of s p)) (numbers_below (process_count g))

-- what a process's condition, if it has one, adds to the key: its value as a number
abbrev pub value_in_key : List Bool → Option ℕ → List ℕ
value_in_key values None = []
value_in_key values (Some c) = number_of_value (get_or values c false) ∷ []

-- the key by which scenarios are compared: along an order, each process's fault count and then its condition's value
abbrev pub key : Graph → List ℕ → Scenario → List ℕ
key g order s = flat_map (λ p. fault_of s p ∷ value_in_key s.values (condition_of g p)) order

-- whether scenario s comes before scenario t: its key has the lesser number at the first place at which they differ
abbrev pub is_before : Graph → List ℕ → Scenario → Scenario → Bool
is_before g order s t = is_below (key g order s) (key g order t)

-- s is the first scenario of the graph, along the order, in which the fact holds
pub record IsLeast (g : Graph) (order : List ℕ) (fact : Scenario → Type 0) (s : Scenario) : Type 0 where
  -- it is a scenario of the graph
  pub lawful : IsScenario g s
  -- the fact holds in it
  pub holds : fact s
  -- no scenario with the fact comes before it
  pub least : (t : Scenario) → IsScenario g t → fact t → is_before g order t s ≡ false
