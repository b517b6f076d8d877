-- The bytes that spell what a node of a play hears and reports: on them it does what is due.
use Rattle.std.specs.Prelude.{ℕ, ◌+◌, ◌≡◌, ◌<◌, ◌≤◌, ◌^◌, List, ◌++◌, length, Ok}
use Rattle.cpg_base.specs.Graph.{Graph}
use Rattle.cpg_base.specs.Limits.{IsWithinLimits}
use Rattle.cpg_base.specs.WellFormed.{WellFormed}
use Rattle.cpg_head.specs.Head.{Head}
use Rattle.cpg_head.specs.GraphHead.{head_of}
use Rattle.cpg_table.specs.Table.{NodeTable, table_at}
use Rattle.cpg_table.specs.Lawful.{AreTablesOf}
use Rattle.cpg_table.specs.Valid.{IsValid}
use Rattle.cpg_cluster.specs.Cluster.{World, Done, initial_cluster, dispatcher_at, answer, play}
use Rattle.cpg_cluster.specs.Correct.{IsWorld, IsDue}
use Rattle.cpg_live.specs.declared.event.Event.{Event}
use Rattle.cpg_live.specs.declared.following.TheConstants.{STREAM_LIMIT}
use Rattle.cpg_live.specs.Stream.{after, outcome}
use Rattle.cpg_live.specs.Streams.{act_lines, closed_line, stream_end, stream_lines}
use Rattle.cpg_live.specs.Told.{after_last}
use Rattle.cpg_live.specs.Spelling.{RiseWithin, closed_at, stream_bytes}
use Rattle.cpg_live.specs.Reorder.{AreThoseOf}
use Rattle.cpg_follow_laws.specs.Follow.{records_in}

-- these records are all those of a node in a play in which it is done, in any order in which time doesn't fall, up to a
-- close that isn't before the node's last turn
pub record AreAllRecords (g : Graph) (tables : List NodeTable) (w : World) (turns : List ℕ) (node close : ℕ)
    (es : List (ℕ × Event)) : Type 0 where
  -- the records are those of the node in the play, in any order
  pub those : AreThoseOf es (records_in g w (initial_cluster g tables) node turns)
  -- their times don't fall and aren't after the close
  pub rise : RiseWithin 0 close es
  -- after the play the node has no turn left
  pub done : answer g (play g w (initial_cluster g tables) turns) node ≡ Done
  -- the close isn't before the node's last turn
  pub late : after_last (dispatcher_at (play g w (initial_cluster g tables) turns) node).last ≤ close + 1
  -- a record has room for its time
  pub small : close < 2 ^ 64

-- on the stream with these bytes, a node does what is due up to its close
pub record DoesWhatIsDue (g : Graph) (tables : List NodeTable) (w : World) (node close : ℕ)
    (bytes : List ℕ) : Type 0 where
  -- the stream is lawful to its close
  pub ends : outcome (after (table_at tables node) bytes) ≡ Ok close
  -- the node's acts on it are those that are due in the scenario
  pub acts : IsDue g tables w.scenario node (after (table_at tables node) bytes).progress.acts
  -- if the stream isn't too long, it is read to its close, and its lines are those of the acts and then of the close
  pub read : length bytes ≤ STREAM_LIMIT → stream_end (table_at tables node) bytes ≡ Ok close
  pub lines : (h : Head) → length bytes ≤ STREAM_LIMIT →
      stream_lines h (table_at tables node) bytes ≡ act_lines h (after (table_at tables node) bytes).progress.acts
      ++ closed_line close

-- This holds of the bytes that spell a node's records and a close after them, in each play of valid tables: in every
-- scenario, and however early executions end.
abbrev pub BytesOfPlaysGiveWhatIsDue : Type 0
BytesOfPlaysGiveWhatIsDue = (g : Graph) (tables : List NodeTable) → IsWithinLimits g → AreTablesOf (head_of g) tables →
    WellFormed g → IsValid g tables →
    (w : World) (turns : List ℕ) (node close : ℕ) (es : List (ℕ × Event)) → IsWorld g w → node < length g.nodes →
    AreAllRecords g tables w turns node close es →
    DoesWhatIsDue g tables w node close (stream_bytes (closed_at es close))
