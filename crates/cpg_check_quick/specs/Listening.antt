-- What the node of an item knows by the item's columns.
use Rattle.std.specs.Prelude.{ℕ, ◌≡◌, ◌<◌, List, All}
use Rattle.cpg_base.specs.Graph.{home, item_count}
use Rattle.cpg_table.specs.Table.{NodeTable}
use Rattle.cpg_check_quick.specs.Hearing.{AreOwnEnded}
use Rattle.cpg_check_quick.specs.Order.{execution}
use Rattle.cpg_check_quick.specs.HeardRows.{IsHeardRow}
use Rattle.cpg_check_quick.specs.Sequences.{AreSequences}
use Rattle.cpg_check_quick.specs.declared.listening.Listener.{Listener}

-- the listener is that of item `x`
pub record IsListener (tables : List NodeTable) (x : ℕ) (listener : Listener) : Type 0 where
  -- the item is one of the graph
  pub item : x < item_count listener.admitted.now.graph
  -- the rows of all executions, and which follow one another
  pub sequences : AreSequences (execution listener.admitted.now.graph) listener.admitted.now.graph tables
      listener.sequences.now
  -- the node is that of the item
  pub node : listener.node ≡ home listener.admitted.now.graph x
  -- marks of variables whose processes are on the node and have always ended by the item's columns
  pub known : AreOwnEnded listener.admitted.now.graph tables x listener.known
  -- rows of items that the node hears
  pub heard_rows : All (IsHeardRow listener.admitted.now.graph tables listener.node) listener.heard_rows.items
