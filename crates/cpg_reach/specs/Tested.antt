-- The conditions that a guard tests. Those of a process's guard are the conditions that decide the process in some
-- scenario.
use Rattle.std.specs.Prelude.{ℕ, ◌≡◌, ◌<◌, List, [], ◌∷◌, ◌++◌, get_or, length, map}
use Rattle.cpg_base.specs.Graph.{Graph, process_count, value_variable}
use Rattle.cpg_order.specs.Deciding.{conditions_of}
use Rattle.cpg_order.specs.Guard.{Guard, Leaf, Test}
use Rattle.cpg_order.specs.Elements.{SameElements}

-- all conditions that a guard tests, one of them maybe several times
abbrev pub tested : Guard → List ℕ
tested (Leaf a) = []
tested (Test c off on) = c ∷ (tested off ++ tested on)

-- the variables of their values
abbrev pub tested_values : Guard → List ℕ
tested_values t = map value_variable (tested t)

-- for each of the processes 0 .. n - 1, the values of the conditions that decide it in some scenario, in any order
pub record AreDecidingUntil (g : Graph) (n : ℕ) (values : List (List ℕ)) : Type 0 where
  -- there is a list for each of these processes
  pub count : length values ≡ n
  -- it has the values of these conditions
  pub each : (p : ℕ) → p < n → SameElements (get_or values p []) (map value_variable (conditions_of g p))

-- the list has, for each process of the graph, the values of the conditions that decide it in some scenario
abbrev pub AreDecidingValues : Graph → List (List ℕ) → Type 0
AreDecidingValues g values = AreDecidingUntil g (process_count g) values
