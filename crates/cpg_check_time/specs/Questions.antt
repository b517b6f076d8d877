-- What the questions about columns need: that all they name is the graph's.
use Rattle.std.specs.Prelude.{◌<◌}
use Rattle.cpg_base.specs.Graph.{Graph, process_count}
use Rattle.cpg_base.specs.Limits.{IsWithinLimits}
use Rattle.cpg_cube.specs.Fit.{IsKnown}
use Rattle.cpg_check_time.specs.Columns.{IsColumn}
use Rattle.cpg_check_time.specs.Delays.{IsDelay}
use Rattle.cpg_check_time.specs.declared.delays.Late.{Late}
use Rattle.cpg_check_time.specs.declared.processor.Overlap.{Overlap}

-- all variables of the cube that has to match as well are the graph's, and so is the delay
pub record FitsLate (g : Graph) (late : Late) : Type 0 where
  -- all variables of the cube are of the graph
  pub cube : IsKnown g late.cube.now
  -- the delay is one of the graph
  pub delay : IsDelay g late.delay

-- the graph is within its limits, both processes are the graph's, and so are all variables of `column`, which starts
-- `process` at an early time
pub record FitsOverlap (g : Graph) (overlap : Overlap) : Type 0 where
  -- the graph is within its limits
  pub limits : IsWithinLimits g
  -- the process that `column` starts is one of the graph
  pub process : overlap.process < process_count g
  -- `column` has variables of the graph, and an early time
  pub column : IsColumn g overlap.column.now
  -- the process whose columns are asked is one of the graph
  pub other : overlap.other < process_count g
