-- The measures of an order, by which it is compared with others.
use Rattle.std.specs.Prelude.{ℕ, List, Option}
use Rattle.cpg_base.specs.Graph.{Graph}
use Rattle.cpg_base.specs.Scenario.{Scenario}
use Rattle.cpg_run.specs.Frozen.{AreFrozenTimes}
use Rattle.cpg_run.specs.Finish.{IsWorst, IsExcess}

-- `excess` is the greatest excess of the order's runs and `worst` their greatest finish, under the order's frozen
-- times
pub record IsMeasured (g : Graph) (urgency order : List ℕ) (excess worst : ℕ) : Type 0 where
  -- the frozen times of the order
  pub frozen : List (Option ℕ)
  pub frozen_times : AreFrozenTimes g order frozen
  -- the least scenario with that excess, and the least process that has it there; `None` if the excess is 0
  pub excess_in : Scenario
  pub excess_by : Option ℕ
  pub is_excess : IsExcess g urgency order frozen excess excess_in excess_by
  -- the least scenario with that finish, and the least process that ends then; `None` if there are no processes
  pub worst_in : Scenario
  pub worst_by : Option ℕ
  pub is_worst : IsWorst g urgency order frozen worst worst_in worst_by
