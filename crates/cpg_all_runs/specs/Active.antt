-- What is active in a scenario, as a list of numbers. Two scenarios with equal lists have the same runs.
use Rattle.std.specs.Prelude.{ℕ, ◌+◌, ◌<◌, false, if◌then◌else◌, List, Option, ◌++◌, map, length, get_or, Contains}
use Rattle.cpg_base.specs.Numbers.{numbers_below}
use Rattle.cpg_base.specs.Graph.{Graph, process_count, condition_count, process_of}
use Rattle.cpg_base.specs.Activity.{active}
use Rattle.cpg_base.specs.Scenario.{Scenario, IsScenario, fault_of, number_of_value}
use Rattle.cpg_order.specs.Urgency.{IsTopological}
use Rattle.cpg_run.specs.Run.{Times, IsRun}

-- one more than the fault count of the process p in s if it is active there, and 0 otherwise
abbrev pub active_fault : Graph → Scenario → ℕ → ℕ
active_fault g s p = if active g s.values p then fault_of s p + 1 else 0

-- 1 if the condition c is false in s and 2 if it is true, or 0 if its process is inactive there
abbrev pub active_value : Graph → Scenario → ℕ → ℕ
active_value g s c = if active g s.values (process_of g c) then number_of_value (get_or s.values c false) + 1 else 0

-- the active numbers of a scenario: `active_fault` of each process, and then `active_value` of each condition
abbrev pub active_numbers : Graph → Scenario → List ℕ
active_numbers g s = map (active_fault g s) (numbers_below (process_count g))
    ++ map (active_value g s) (numbers_below (condition_count g))

-- two scenarios have the same runs, under every topological order and all frozen times
pub record HaveSameRuns (g : Graph) (s u : Scenario) : Type 0 where
  -- a run of s is one of u
  pub onward : (order : List ℕ) (frozen : List (Option ℕ)) (t : Times) → IsTopological g order →
      IsRun g order frozen s t →
      IsRun g order frozen u t
  -- and a run of u is one of s
  pub back : (order : List ℕ) (frozen : List (Option ℕ)) (t : Times) → IsTopological g order →
      IsRun g order frozen u t →
      IsRun g order frozen s t

-- some scenario of the list has the same runs as s; the default d of `get_or` is never used
abbrev pub IsShown : Graph → List Scenario → Scenario → Type 0
IsShown g list s = (i : ℕ) × (i < length list) × ((d : Scenario) → HaveSameRuns g (get_or list i d) s)

-- scenarios of a graph that show all its runs: each scenario of the graph has the runs of one of them
pub record AreExamples (g : Graph) (list : List Scenario) : Type 0 where
  -- each is a scenario of the graph
  pub lawful : (s : Scenario) → Contains list s → IsScenario g s
  -- each scenario of the graph has the runs of one of them
  pub all : (s : Scenario) → IsScenario g s → IsShown g list s
