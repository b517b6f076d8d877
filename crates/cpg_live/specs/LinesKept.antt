-- What holds of a follower between calls.
use Rattle.std.specs.Prelude.{ℕ, ◌≡◌, ◌+◌, ◌*◌, ◌≤◌, List, length}
use Rattle.std.specs.Vec.{vec_capacity}
use Rattle.cpg_table.specs.Table.{NodeTable}
use Rattle.cpg_table.specs.Lawful.{column_count}
use Rattle.cpg_live.specs.Stream.{after}
use Rattle.cpg_live.specs.declared.act_lines.TheConstants.{MOST_LINE}
use Rattle.cpg_live.specs.declared.following.TheConstants.{STREAM_LIMIT}
use Rattle.cpg_live.specs.declared.following.Follower.TheInside.{Inside}
use Rattle.cpg_live.specs.Follower.{Follower}

-- the table of the follower's node
abbrev pub table_in : Inside → NodeTable
table_in f = f.live.progress.dispatcher.table

-- the follower that the fields make
abbrev pub follower_of : Inside → Follower
follower_of f = record { head = f.head; table = table_in f; live = f.live; told = f.told; read = f.read }

-- the most acts that a node can do: one for each column of what it sends and starts
abbrev pub entry_count : NodeTable → ℕ
entry_count table = column_count table.sends + column_count table.starts

-- the state is that after the bytes `fed`, and there is room for the lines of all acts that the node can do, and for one
-- more line
pub record IsFollowing (f : Inside) : Type 0 where
  -- the bytes that were fed
  pub fed : List ℕ
  -- the state is that after them
  pub live : f.live ≡ after (table_in f) fed
  -- their number is kept
  pub read : f.read ≡ length fed
  -- at most a byte more than the limit, which shows that the stream is too long
  pub few : f.read ≤ STREAM_LIMIT + 1
  -- no more acts count as written than were done
  pub told : f.told ≤ length f.live.progress.acts
  -- there is room for the lines of all acts, and for one more
  pub room : MOST_LINE * (entry_count (table_in f) + 1) ≤ vec_capacity f.lines
