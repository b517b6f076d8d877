-- The state of a node, and what its calls require.
use Rattle.std.specs.Prelude.{ℕ, ◌≡◌, ◌<◌, ◌≤◌, ◌+◌, ◌^◌, min, nat_lt, ◌&&◌, Bool, true, false, ◌==◌, if◌then◌else◌}
use Rattle.std.specs.Prelude.{List, [], ◌∷◌, Option, Some, None, option_map, option_and_then, is_some, get_or, length}
use Rattle.std.specs.Prelude.{All, IfSome}
use Rattle.std.specs.List.{list_any}
use Rattle.cpg_table.specs.Table.{Row, columns_in}
use Rattle.cpg_node.specs.Dispatcher.{Dispatcher, Own, OwnTable, Ended, Frame, Act, Running, own_of, is_after, next}
use Rattle.cpg_node.specs.Dispatcher.{no_column}

-- a dispatcher, and what it did in its last turn
pub record NodeState : Type 0 where
  pub dispatcher : Dispatcher
  pub acts : List Act

-- the execution of process p, if it runs: the first of the node's processes with this number has it at its place
abbrev pub running_in : List Own → List (Option Running) → ℕ → Option Running
running_in [] runs p = None
running_in (o ∷ os) [] p = None
running_in (o ∷ os) (run ∷ runs) p = if o.process == p then run else running_in os runs p

-- the execution of a process, if it runs on the node
abbrev pub running_of : Dispatcher → ℕ → Option Running
running_of d p = running_in d.table.own d.running p

-- when the execution of a process started, if it runs on the node
abbrev pub start_of : Dispatcher → ℕ → Option ℕ
start_of d p = option_map (λ (run : Running). run.start) (running_of d p)

-- the kept report of a process that runs on the node
abbrev pub report_of : Dispatcher → ℕ → Option Ended
report_of d p = option_and_then (λ (run : Running). run.report) (running_of d p)

-- whether a process runs on the node with a kept report
abbrev pub has_reported : Dispatcher → ℕ → Bool
has_reported d p = is_some (report_of d p)

-- how long an execution of process p of the node lasts with this many faults; 0 if it isn't the node's
abbrev pub time_of : Dispatcher → ℕ → ℕ → ℕ
time_of d p faults = get_or (own_of d.table p).times faults 0

-- the end e is of an execution that hasn't reported and that with e's faults ends at `time`
pub record EndsAt (d : Dispatcher) (time : ℕ) (e : Ended) : Type 0 where
  -- the process runs
  pub run : Running
  pub runs : running_of d e.process ≡ Some run
  -- its end hasn't been reported
  pub unreported : run.report ≡ None
  -- at most the faults of a cycle
  pub few : e.faults ≤ d.table.faults
  -- the start and the duration with these faults are together this time
  pub planned : run.start + time_of d e.process e.faults ≡ time

-- the hear row of the frame's item has its column, at this time
pub record ArrivesAt (d : Dispatcher) (time : ℕ) (f : Frame) : Type 0 where
  pub there : f.column < length (columns_in d.table.hears f.item)
  pub arrives : (get_or (columns_in d.table.hears f.item) f.column no_column).time ≡ time

-- the node has a next instant, `time`, at which these executions end and these frames arrive
pub record MayTurn (d : Dispatcher) (ended : List Ended) (frames : List Frame) : Type 0 where
  pub time : ℕ
  pub comes : next d ≡ Some time
  pub ends : All (EndsAt d time) ended
  pub arrive : All (ArrivesAt d time) frames

-- The end e may be reported at this time: its process runs and hasn't reported, the time is after its start and no later
-- than its planned end, and after the last turn and no later than the next instant.
pub record MayFinish (d : Dispatcher) (time : ℕ) (e : Ended) : Type 0 where
  -- the process runs
  pub run : Running
  pub runs : running_of d e.process ≡ Some run
  -- its end hasn't been reported
  pub unreported : run.report ≡ None
  -- at most the faults of a cycle
  pub few : e.faults ≤ d.table.faults
  -- a process without a condition gives no value
  pub plain : (own_of d.table e.process).condition ≡ None → e.value ≡ false
  -- after its start
  pub started : run.start < time
  -- no later than planned with these faults
  pub in_time : time ≤ run.start + time_of d e.process e.faults
  -- after the last turn
  pub later : is_after d.last time ≡ true
  -- no later than the next instant
  pub before : IfSome (next d) (λ n. time ≤ n)

-- whether a frame's item is in the hear rows, and its column there arrives at the time
abbrev pub arrives : OwnTable → ℕ → Frame → Bool
arrives table arrival f =
    list_any (λ (row : Row). row.item == f.item) table.hears && nat_lt f.column (length (columns_in table.hears f.item))
    && ((get_or (columns_in table.hears f.item) f.column no_column).time == arrival)

-- the lesser of two times; None is no time, so the other one counts
abbrev pub earlier : Option ℕ → Option ℕ → Option ℕ
earlier None other = other
earlier (Some time) None = Some time
earlier (Some time) (Some other) = Some (min time other)

-- an execution, if there is one, has started at a time to which a duration can be added
abbrev pub IsTimed : Option Running → Type 0
IsTimed running = IfSome running (λ (run : Running). run.start < 2 ^ 60)

-- all of these executions have started at such times
abbrev pub AreTimed : List (Option Running) → Type 0
AreTimed runs = All IsTimed runs
