-- What each node of a play hears and reports, in order, is a stream that the node can follow.
use Rattle.std.specs.Prelude.{ℕ, ◌+◌, ◌≡◌, ◌<◌, ◌≤◌, ◌==◌, nat_le, if◌then◌else◌, List, [], ◌∷◌, ◌++◌, Option, Some}
use Rattle.std.specs.Prelude.{None, get_or, length}
use Rattle.cpg_base.specs.Graph.{Graph}
use Rattle.cpg_base.specs.WellFormed.{WellFormed}
use Rattle.cpg_table.specs.Table.{NodeTable, table_at}
use Rattle.cpg_table.specs.Shape.{HasShape}
use Rattle.cpg_table.specs.Valid.{IsValid}
use Rattle.cpg_node.specs.Dispatcher.{Ended, next}
use Rattle.cpg_cluster.specs.Cluster.{World, Cluster, Answer, Took, Done, own_table, initial_cluster, dispatcher_at}
use Rattle.cpg_cluster.specs.Cluster.{answer, reports_now, reported, frames_now, step, play}
use Rattle.cpg_cluster.specs.Correct.{IsWorld, IsDue}
use Rattle.cpg_live.specs.declared.event.Event.{Event}
use Rattle.cpg_live.specs.Stream.{Step, lawful, start}
use Rattle.cpg_live.specs.Told.{follow, HasCome, after_last, turn_events}
use Rattle.cpg_live.specs.Spelling.{RiseWithin, closed_at}

-- the reports with one more, put before the first that isn't earlier
abbrev pub inserted : ℕ × Ended → List (ℕ × Ended) → List (ℕ × Ended)
inserted e [] = e ∷ []
inserted e (f ∷ fs) = if nat_le e.0 f.0 then e ∷ f ∷ fs else f ∷ inserted e fs

-- the reports in order of time; those of one time keep their order
abbrev pub by_time : List (ℕ × Ended) → List (ℕ × Ended)
by_time [] = []
by_time (e ∷ es) = inserted e (by_time es)

-- The records of node a for its turn at a time: the reports that it takes before the turn, each at its actual end, and
-- the frames that arrive at the time.
abbrev pub records_at : Graph → World → Cluster → ℕ → ℕ → List (ℕ × Event)
records_at g w c a time = turn_events time (by_time (reports_now g w (dispatcher_at c a) time))
    (frames_now g w c (reported g w (dispatcher_at c a) time) time)

-- the records of node a when it is asked, given its answer and its next instant; if it waits or is done, there are none
abbrev pub records_by : Graph → World → Cluster → ℕ → Answer → Option ℕ → List (ℕ × Event)
records_by g w c a Took (Some time) = records_at g w c a time
records_by g w c a _ _ = []

-- the records of `node` when node a is asked: none if they are different nodes
abbrev pub records_in_step : Graph → World → Cluster → ℕ → ℕ → List (ℕ × Event)
records_in_step g w c a node = if a == node then records_by g w c a (answer g c a) (next (dispatcher_at c a)) else []

-- the records of a node in a play in which these nodes are asked
abbrev pub records_in : Graph → World → Cluster → ℕ → List ℕ → List (ℕ × Event)
records_in g w c node [] = []
records_in g w c node (a ∷ rest) = records_in_step g w c a node ++ records_in g w (step g w c a) node rest

-- In each play of valid tables, a node's records are in order of time. A close that isn't before the node's last turn
-- (the instant after that turn is at most the close plus 1) isn't before any of them.
abbrev pub RecordsRise : Type 0
RecordsRise = (g : Graph) (tables : List NodeTable) → WellFormed g → HasShape g tables → IsValid g tables →
    (w : World) (turns : List ℕ) (node close : ℕ) → IsWorld g w → node < length g.nodes →
    after_last (dispatcher_at (play g w (initial_cluster g tables) turns) node).last ≤ close + 1 →
    RiseWithin 0 close (records_in g w (initial_cluster g tables) node turns)

-- a node's step before its first record: nothing is lawless yet
abbrev pub opened : Graph → List NodeTable → ℕ → Step
opened g tables node = lawful (start (own_table g node (table_at tables node)))

-- on its records in a play, a node does what it does in the play
pub record IsFollowedSoFar (g : Graph) (tables : List NodeTable) (w : World) (turns : List ℕ) (node : ℕ) : Type 0 where
  -- no record is refused
  pub none : (follow (opened g tables node) (records_in g w (initial_cluster g tables) node turns)).fault ≡ None
  -- with all turns up to its last in the play, its state and its acts are those of the play
  pub comes : let state = play g w (initial_cluster g tables) turns in
      HasCome (follow (opened g tables node) (records_in g w (initial_cluster g tables) node turns)).progress
      (dispatcher_at state node) (get_or state.acts node [])

-- in each play of valid tables, each node can follow its records so
abbrev pub PlaysAreFollowed : Type 0
PlaysAreFollowed = (g : Graph) (tables : List NodeTable) → WellFormed g → HasShape g tables → IsValid g tables →
    (w : World) (turns : List ℕ) (node : ℕ) → IsWorld g w → node < length g.nodes →
    IsFollowedSoFar g tables w turns node

-- the records of a node in a play, with a close after them
abbrev pub stream_of : Graph → List NodeTable → World → List ℕ → ℕ → ℕ → List (ℕ × Event)
stream_of g tables w turns node close = closed_at (records_in g w (initial_cluster g tables) node turns) close

-- a node's records in a play, with a close, are a lawful stream, on which the node does what is due
pub record GivesWhatIsDue (g : Graph) (tables : List NodeTable) (w : World) (turns : List ℕ)
    (node close : ℕ) : Type 0 where
  -- no record is refused
  pub none : (follow (opened g tables node) (stream_of g tables w turns node close)).fault ≡ None
  -- the acts are those that are due
  pub acts : IsDue g tables w.scenario node
      (follow (opened g tables node) (stream_of g tables w turns node close)).progress.acts

-- this holds in each play of valid tables, if the node is done after it and the close isn't before the node's last turn
abbrev pub StreamsGiveWhatIsDue : Type 0
StreamsGiveWhatIsDue = (g : Graph) (tables : List NodeTable) → WellFormed g → HasShape g tables → IsValid g tables →
    (w : World) (turns : List ℕ) (node close : ℕ) → IsWorld g w → node < length g.nodes →
    answer g (play g w (initial_cluster g tables) turns) node ≡ Done →
    after_last (dispatcher_at (play g w (initial_cluster g tables) turns) node).last ≤ close + 1 →
    GivesWhatIsDue g tables w turns node close
