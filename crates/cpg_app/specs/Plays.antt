-- The text of a play: what all nodes did in one scenario, with given lengths of executions, until each was done.
use Rattle.std.specs.Prelude.{ℕ, ◌≡◌, ◌++◌, List, codes}
use Rattle.std.specs.Fmt.{decimal}
use Rattle.cpg_base.specs.Graph.{Graph}
use Rattle.cpg_words.specs.Parts.{Text}
use Rattle.cpg_scenario.specs.declared.reading.Played.{Played}
use Rattle.cpg_table.specs.Table.{NodeTable}
use Rattle.cpg_cluster.specs.Cluster.{World, Cluster, initial_cluster}
use Rattle.cpg_cluster.specs.Driving.{IsDriven}
use Rattle.cpg_cluster.specs.Whole.{IsWholePlay}
use Rattle.cpg_show.specs.TraceText.{IsTraceText}

-- the fault counts, values and lengths that a scenario file says
abbrev pub world_of : Played → World
world_of p = record { scenario = p.scenario; lengths = p.lengths }

-- the line that says how often a node that was asked had to wait
abbrev pub waits_line : ℕ → Text
waits_line waits = codes "waits " ++ decimal waits ++ codes "\n"

-- the text is the trace of all nodes after a play whose choices are drawn from a number until each is done, and the line of
-- its waits
pub record IsPlayText (g : Graph) (tables : List NodeTable) (w : World) (number : ℕ) (text : Text) : Type 0 where
  -- the nodes at the end, and how often a node that was asked had to wait
  pub cluster : Cluster
  pub waits : ℕ
  -- the number drives the play until each node is done
  pub driven : IsDriven g w number (initial_cluster g tables) cluster waits
  -- every node has done what is due on it
  pub whole : IsWholePlay g tables w cluster
  -- the lines of what the nodes did, and of the greatest end
  pub trace : Text
  pub traced : IsTraceText g w.lengths cluster.acts cluster.ends trace
  pub spelled : text ≡ trace ++ waits_line waits
