-- What is found of the runs of all scenarios of a list at a place of the order, as a sweep goes along the order with
-- all of them.
use Rattle.std.specs.Prelude.{ℕ, ◌≡◌, ◌<◌, List, Option, length, get_or}
use Rattle.cpg_base.specs.Graph.{Graph, producer}
use Rattle.cpg_base.specs.Scenario.{Scenario}
use Rattle.cpg_base.specs.Order.{place}
use Rattle.cpg_run.specs.Progress.{ProgressState, IsAlong}

-- `found` has for each scenario of the list what is found of its run before the place i of the order
pub record AreAlong (g : Graph) (order : List ℕ) (frozen : List (Option ℕ)) (i : ℕ) (list : List Scenario)
    (found : List ProgressState) : Type 0 where
  pub count : length found ≡ length list
  -- the defaults s and p of `get_or` are never used, as j is below both lengths
  pub each : (j : ℕ) (s : Scenario) (p : ProgressState) → j < length list →
      IsAlong g order frozen (get_or list j s) i (get_or found j p)

-- the place in the order of the process that the item x comes from
abbrev pub place_of_item : Graph → List ℕ → ℕ → ℕ
place_of_item g order x = place order (producer g x)
