-- Which scenarios give a log: those in which what is due on the nodes up to the log's time is just what the log names.
use Rattle.std.specs.Prelude.{◌≡◌, ◌≤◌, List, Contains}
use Rattle.cpg_base.specs.Graph.{Graph}
use Rattle.cpg_base.specs.Scenario.{Scenario}
use Rattle.cpg_table.specs.Table.{NodeTable}
use Rattle.cpg_node.specs.Dispatcher.{Act}
use Rattle.cpg_cluster.specs.Correct.{all_asked}
use Rattle.cpg_log.specs.Log.{Log}
use Rattle.cpg_log.specs.declared.log.Logged.{Logged}

-- an act as a log names it, by its time and item
abbrev pub logged : Act → Logged
logged a = record { time = a.time; item = a.item }

-- scenario `s` gives the log
pub record Gives (g : Graph) (tables : List NodeTable) (log : Log) (s : Scenario) : Type 0 where
  -- the log names each act that is due on some node up to the log's time
  pub named : (a : Act) → Contains (all_asked g tables s) a → a.time ≤ log.until → Contains log.acts (logged a)
  -- and each act that it names is due
  pub due : (l : Logged) → Contains log.acts l → (a : Act) × Contains (all_asked g tables s) a × (logged a ≡ l)
