-- A scenario into which others can be written.
use Rattle.std.specs.Prelude.{◌≡◌, length}
use Rattle.cpg_base.specs.Graph.{Graph, process_count, condition_count}
use Rattle.cpg_base.specs.Scenario.{Scenario}

-- the scenario has a value for each condition of the graph and a count for each process, so any other of the graph can
-- be written over it
pub record HasRoom (g : Graph) (s : Scenario) : Type 0 where
  -- a value for each condition
  pub values : length s.values ≡ condition_count g
  -- a fault count for each process
  pub faults : length s.faults ≡ process_count g
