-- What a node knows of a value that it sends.
use Rattle.std.specs.Prelude.{ℕ, ◌≡◌, ◌<◌, List, [], get_or, length, Contains}
use Rattle.cpg_base.specs.Graph.{Graph, broadcast_item, item_at, value_variable}
use Rattle.cpg_base.specs.Scenario.{number_of_value}
use Rattle.cpg_base.specs.WellFormed.{WellFormed}
use Rattle.cpg_table.specs.Table.{NodeTable}
use Rattle.cpg_table.specs.Shape.{HasShape}
use Rattle.cpg_table.specs.Valid.{IsValid}
use Rattle.cpg_node.specs.Dispatcher.{Act, Range, range_of}
use Rattle.cpg_cluster.specs.Cluster.{World, dispatcher_at, frame_of_item, initial_cluster, play}
use Rattle.cpg_cluster.specs.Correct.{IsWorld}

-- the range of one number
abbrev pub only : ℕ → Range
only n = record { low = n; high = n }

-- In each state of each play of valid tables, if a node has broadcast a condition, the range that it holds of the
-- condition's value has just the value that the frame carries.
abbrev pub SentValuesAreKnown : Type 0
SentValuesAreKnown = (g : Graph) (tables : List NodeTable) → WellFormed g → HasShape g tables → IsValid g tables →
    (w : World) (turns : List ℕ) (node condition : ℕ) (a : Act) → IsWorld g w → node < length g.nodes →
    let state = play g w (initial_cluster g tables) turns in
    Contains (get_or state.acts node []) a → a.item ≡ broadcast_item g condition →
    range_of (dispatcher_at state node).heard (value_variable condition)
    ≡ only (number_of_value (frame_of_item w (item_at g a.item) a).value)
