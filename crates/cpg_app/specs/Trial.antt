-- A trial of a number: the graph that the number generates is compiled, and its tables are played in three scenarios.
use Rattle.std.specs.Prelude.{ℕ, ◌≡◌, true, List, replicate, slice_set, sum_by}
use Rattle.cpg_base.specs.Graph.{Graph, process_count, edge_count, condition_count}
use Rattle.cpg_base.specs.Scenario.{Scenario, zero_scenario, full_lengths}
use Rattle.cpg_gen.specs.Generated.{generated}
use Rattle.cpg_rules.specs.Admission.{Admission, IsAdmitted}
use Rattle.cpg_table.specs.Table.{NodeTable}
use Rattle.cpg_table.specs.Lawful.{column_count, rows_of}
use Rattle.cpg_core.specs.declared.compiling.Compiled.{Compiled}
use Rattle.cpg_core.specs.Compilation.{IsCompilation}
use Rattle.cpg_cluster.specs.Cluster.{World, Cluster, initial_cluster}
use Rattle.cpg_cluster.specs.Driving.{IsDriven}
use Rattle.cpg_cluster.specs.Whole.{IsWholePlay}
use Rattle.cpg_show.specs.TraceText.{finish_of}
use Rattle.cpg_outputs.specs.declared.figures.Ending.{Ending}
use Rattle.cpg_outputs.specs.declared.figures.Endings.{Endings}
use Rattle.cpg_outputs.specs.declared.figures.Trial.{Trial}

-- some number generates the graph
abbrev pub IsGenerated : Graph → Type 0
IsGenerated g = (number : ℕ) × (g ≡ generated number)

-- the scenario, with each execution as long as planned
abbrev pub planned_world : Graph → Scenario → World
planned_world g s = record { scenario = s; lengths = full_lengths g s }

-- `e` is how a play of scenario `s` ends that `number` drives until each node is done: it says the greatest end that any
-- node reached, and how often a node that was asked had to wait
pub record IsEnding (g : Graph) (tables : List NodeTable) (s : Scenario) (number : ℕ) (e : Ending) : Type 0 where
  -- the nodes at the end
  pub cluster : Cluster
  -- the number drives the play until each node is done
  pub driven : IsDriven g (planned_world g s) number (initial_cluster g tables) cluster e.waits
  -- every node has done what is due on it
  pub whole : IsWholePlay g tables (planned_world g s) cluster
  -- the greatest end that any node reached
  pub finish : e.finish ≡ finish_of g cluster.ends

-- every value is true, and the first process has two faults
abbrev pub true_scenario : Graph → Scenario
true_scenario g =
    record { values = replicate (condition_count g) true; faults = slice_set (replicate (process_count g) 0) 0 2 }

-- these are the ends of three plays of a compilation's tables
pub record AreEndings (g : Graph) (c : Compiled) (number : ℕ) (e : Endings) : Type 0 where
  -- with no fault and every value false
  pub fault_free : IsEnding g c.built.tables.nodes (zero_scenario g) number e.fault_free
  -- in the least scenario that has the greatest finish
  pub worst_case : IsEnding g c.built.tables.nodes c.built.worst_in number e.worst_case
  -- with every value true and two faults in the first process
  pub all_true : IsEnding g c.built.tables.nodes (true_scenario g) number e.all_true

-- how many columns all tables have, those of hear rows too
abbrev pub columns_in : List NodeTable → ℕ
columns_in tables = sum_by (λ t. column_count (rows_of t)) tables

-- the figures are those of a graph, of its compilation's tables and of their three plays
pub record AreFiguresOf (g : Graph) (c : Compiled) (number : ℕ) (t : Trial) : Type 0 where
  pub processes : t.processes ≡ process_count g
  pub edges : t.edges ≡ edge_count g
  pub conditions : t.conditions ≡ condition_count g
  -- how many columns all tables have
  pub columns : t.columns ≡ columns_in c.built.tables.nodes
  -- the greatest finish of the compile
  pub worst : t.worst ≡ c.built.worst
  -- how the three plays end
  pub plays : AreEndings g c number t.endings
  -- the play of the worst case ends at the greatest finish
  pub reached : t.endings.worst_case.finish ≡ t.worst

-- the figures are those of the number's graph and of its compile
pub record IsTrial (number : ℕ) (t : Trial) : Type 0 where
  -- the number's graph with its order and guards, which is admitted
  pub admission : Admission
  pub graph : admission.graph ≡ generated number
  pub admitted : IsAdmitted admission.graph admission.order admission.guards
  -- what its compile gives
  pub compiled : Compiled
  pub compilation : IsCompilation admission.graph admission.order compiled
  -- the figures are those of this graph and this compile
  pub figures : AreFiguresOf admission.graph compiled number t
