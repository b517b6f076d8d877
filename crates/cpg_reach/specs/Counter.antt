-- What has to hold of a counter of views.
use Rattle.std.specs.Prelude.{ℕ, ◌≡◌, List}
use Rattle.cpg_base.specs.Graph.{Graph}
use Rattle.cpg_order.specs.Counting.{conditions_along, all_false}
use Rattle.cpg_reach.specs.declared.counting.Counter.{Counter}
use Rattle.cpg_reach.specs.WaysTable.{AreWays}

-- the counter is made for this graph and this order
pub record IsCounterFor (g : Graph) (order : List ℕ) (c : Counter) : Type 0 where
  -- for each number of fault counts it has in how many ways they add up to at most the faults of the graph
  pub ways : AreWays g.faults c.ways
  -- it has the conditions in the order of their processes
  pub conditions : c.conditions.items ≡ conditions_along g order
  -- its scenario has every value false
  pub values : c.scenario.values ≡ all_false g
