-- Which scenarios of a list have the same active numbers, and so the same runs.
use Rattle.std.specs.Prelude.{ℕ, ◌≡◌, ◌≤◌, ◌<◌, List, length, get_or}
use Rattle.cpg_base.specs.Graph.{Graph}
use Rattle.cpg_base.specs.Scenario.{Scenario, zero_scenario}
use Rattle.cpg_all_runs.specs.Active.{active_numbers, HaveSameRuns}

-- the scenario at a place of a list; past its end the one without faults, with every value false
abbrev pub scenario_at : Graph → List Scenario → ℕ → Scenario
scenario_at g list i = get_or list i (zero_scenario g)

-- the active numbers of the scenario at a place of a list
abbrev pub numbers_at : Graph → List Scenario → ℕ → List ℕ
numbers_at g list i = active_numbers g (scenario_at g list i)

-- for each of the first n places the first place at which f has the same value
pub record AreFirstPlaces (f : ℕ → List ℕ) (n : ℕ) (firsts : List ℕ) : Type 0 where
  pub count : length firsts ≡ n
  -- f has the same value there
  pub same : (i : ℕ) → i < n → f (get_or firsts i 0) ≡ f i
  -- it has this value at no earlier place
  pub least : (i j : ℕ) → i < n → f j ≡ f i → get_or firsts i 0 ≤ j

-- for each scenario of a list the place of the first one with the same active numbers
pub record AreFirstAlike (g : Graph) (list : List Scenario) (firsts : List ℕ) : Type 0 where
  pub places : AreFirstPlaces (numbers_at g list) (length list) firsts
  -- the scenario at that place has the same runs
  pub runs : (i : ℕ) → i < length list → HaveSameRuns g (scenario_at g list (get_or firsts i 0)) (scenario_at g list i)
