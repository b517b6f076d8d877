-- What a node hears by the ends of its own processes: which processes are active, and which have ended.
use Rattle.std.specs.Prelude.{ℕ, ◌+◌, ◌≡◌, ◌≤◌, true, List, Contains}
use Rattle.cpg_base.specs.Activity.{active}
use Rattle.cpg_base.specs.Duration.{duration}
use Rattle.cpg_base.specs.Graph.{Graph, node_of, process_of_variable}
use Rattle.cpg_base.specs.Scenario.{Scenario, IsScenario}
use Rattle.cpg_cube.specs.Cube.{matches}
use Rattle.cpg_cube.specs.declared.literal.Literal.{Literal}
use Rattle.cpg_table.specs.Table.{NodeTable, columns_of}
use Rattle.cpg_cube.specs.declared.column.Column.{Column}

-- wherever a column matches, the process of each of its literals is active, as V1 requires
abbrev pub HasActive : Graph → Column → Type 0
HasActive g c = (s : Scenario) (l : Literal) → IsScenario g s → matches c.cube s ≡ true → Contains c.cube l →
    active g s.values (process_of_variable g l.variable) ≡ true

-- the process of variable `v` is on the node, and has ended by the time
pub record HasEnded (g : Graph) (tables : List NodeTable) (node v time : ℕ) : Type 0 where
  -- the process is on the node
  pub home : node_of g (process_of_variable g v) ≡ node
  -- by whichever column it starts, and with any number of faults
  pub ends : (c : Column) (n : ℕ) → Contains (columns_of tables (process_of_variable g v)) c → n ≤ g.faults →
      c.time + duration g (process_of_variable g v) n ≤ time
