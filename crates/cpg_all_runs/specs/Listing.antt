-- All scenarios of a graph as a list, and the lists of those with faults or true values below a number, of which it is
-- made.
use Rattle.std.specs.Prelude.{ℕ, zero, suc, ◌+◌, ◌-◌, ◌≢◌, ◌<◌, true, List, [], ◌∷◌, map, length, sum, slice_set}
use Rattle.std.specs.Prelude.{Contains}
use Rattle.std.specs.List.{flat_map, AllPairs}
use Rattle.cpg_base.specs.Numbers.{numbers_below}
use Rattle.cpg_base.specs.Graph.{Graph, process_count}
use Rattle.cpg_base.specs.Scenario.{Scenario, IsScenario, zero_scenario}

-- the list has each scenario of the graph once, and no other
pub record AreScenarios (g : Graph) (list : List Scenario) : Type 0 where
  -- each is a scenario of the graph
  pub lawful : (s : Scenario) → Contains list s → IsScenario g s
  -- each scenario of the graph is one of them
  pub all : (s : Scenario) → IsScenario g s → Contains list s
  -- no two of them are the same
  pub apart : AllPairs (λ s t. s ≢ t) list

-- the scenario has a value of the condition c
abbrev pub HasValue : ℕ → Scenario → Type 0
HasValue c s = c < length s.values

-- the scenario s with the fault count f of the process p
abbrev pub with_fault : ℕ → Scenario → ℕ → Scenario
with_fault p s f = record s { faults = slice_set s.faults p f }

-- the scenario s with each fault count of the process p, from none to the faults that s leaves of the graph's; in s
-- itself p has none
abbrev pub with_each_fault : Graph → ℕ → Scenario → List Scenario
with_each_fault g p s = map (with_fault p s) (numbers_below (g.faults - sum s.faults + 1))

-- the scenario s with the condition c true
abbrev pub with_true : ℕ → Scenario → Scenario
with_true c s = record s { values = slice_set s.values c true }

-- the scenario s as it is, in which the condition c is false, and with c true
abbrev pub with_both : ℕ → Scenario → List Scenario
with_both c s = s ∷ with_true c s ∷ []

-- the scenarios in which every value is false, and only processes with a number below p have faults
unfoldable pub with_faults_below : Graph → ℕ → List Scenario
with_faults_below g zero = zero_scenario g ∷ []
with_faults_below g (suc p) = flat_map (with_each_fault g p) (with_faults_below g p)

-- the scenarios in which only conditions with a number below c are true, with any faults
unfoldable pub with_values_below : Graph → ℕ → List Scenario
with_values_below g zero = with_faults_below g (process_count g)
with_values_below g (suc c) = flat_map (with_both c) (with_values_below g c)
