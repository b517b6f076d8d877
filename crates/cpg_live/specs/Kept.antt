-- What holds of a node with its acts between calls.
use Rattle.std.specs.Prelude.{◌≤◌, ◌+◌, length}
use Rattle.std.specs.Vec.{vec_capacity}
use Rattle.cpg_table.specs.Lawful.{IsTable}
use Rattle.cpg_node.specs.Instants.{entries_left}
use Rattle.cpg_live.specs.declared.progress.NodeProgress.TheInside.{Inside}
use Rattle.cpg_live.specs.Stream.{NodeProgress}

-- the state that the fields make
abbrev pub progress_of : Inside → NodeProgress
progress_of p = record { dispatcher = p.node.dispatcher; acts = p.acts.items }

-- the table is lawful, and beside the acts so far there is room for one of each entry that is left
pub record HasRoom (p : Inside) : Type 0 where
  -- the table is lawful
  pub made : IsTable p.node.dispatcher.table
  -- there is room for the acts so far and one of each entry that is left
  pub room : length p.acts.items + length (entries_left p.node.dispatcher) ≤ vec_capacity p.acts
