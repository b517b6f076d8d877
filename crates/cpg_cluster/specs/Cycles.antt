-- Cycles: the tables of a graph are used again and again, each time from a new beginning.
use Rattle.std.specs.Prelude.{ℕ, ◌+◌, ◌*◌, ◌≡◌, ◌<◌, ◌≤◌, ◌==◌, max, List, [], get_or, length, IsTrue, Contains}
use Rattle.std.specs.Int.{div_ceil}
use Rattle.std.specs.List.{flat_map, list_any}
use Rattle.cpg_base.specs.Numbers.{greatest}
use Rattle.cpg_base.specs.Graph.{Graph, process_count}
use Rattle.cpg_base.specs.WellFormed.{WellFormed}
use Rattle.cpg_base.specs.Bus.{round, occurrence}
use Rattle.cpg_base.specs.Scenario.{Scenario}
use Rattle.cpg_table.specs.Table.{NodeTable}
use Rattle.cpg_table.specs.Shape.{HasShape}
use Rattle.cpg_table.specs.Valid.{IsValid}
use Rattle.cpg_node.specs.Dispatcher.{Act, Ended, times_in}
use Rattle.cpg_cluster.specs.Cluster.{World, Cluster, initial_cluster, play}
use Rattle.cpg_cluster.specs.Correct.{IsWorld, end_of_act, arrival_of_act}

-- the greatest time of anything that a node hears, or 0 if nothing is sent
abbrev pub last_arrival : List NodeTable → ℕ
last_arrival tables = greatest (flat_map (λ (t : NodeTable). times_in t.hears) tables)

-- the number of which each cycle time is a multiple: the length of the round, or 1 if there are no slots
abbrev pub cycle_step : Graph → ℕ
cycle_step g = max (round g) 1

-- a cycle time: after it the tables may be used again
pub record IsCycle (g : Graph) (tables : List NodeTable) (time : ℕ) : Type 0 where
  -- a cycle isn't empty
  pub some : 1 ≤ time
  -- how many rounds of the bus it lasts, or how many time units if there are no slots
  pub rounds : ℕ
  -- the time is that many whole steps
  pub whole : time ≡ rounds * cycle_step g
  -- all executions have ended by then
  pub deadline : g.deadline ≤ time
  -- all frames have come by then
  pub arrivals : last_arrival tables ≤ time

-- the least cycle time: the greatest of the deadline, the last arrival and 1, rounded up to whole rounds
abbrev pub least_cycle : Graph → List NodeTable → ℕ
least_cycle g tables = div_ceil (max (max g.deadline (last_arrival tables)) 1) (cycle_step g) * cycle_step g

-- this is the least cycle time of a graph and its tables
pub record IsLeastCycle (g : Graph) (tables : List NodeTable) (time : ℕ) : Type 0 where
  -- it is a cycle time itself
  pub is : IsCycle g tables time
  -- no cycle time is less
  pub least : (other : ℕ) → IsCycle g tables other → time ≤ other

-- `least_cycle` is the least cycle time of any graph and tables
abbrev pub LeastCyclesAreLeast : Type 0
LeastCyclesAreLeast = (g : Graph) (tables : List NodeTable) → IsLeastCycle g tables (least_cycle g tables)

-- all that nodes have done is over by a time
pub record IsOverBy (g : Graph) (s : Scenario) (c : Cluster) (time : ℕ) : Type 0 where
  -- each execution that has started has its planned end by then
  pub starts : (node : ℕ) (a : Act) → node < length g.nodes → Contains (get_or c.acts node []) a →
      a.item < process_count g →
      end_of_act g s a ≤ time
  -- each frame that has been sent arrives by then
  pub sends : (node : ℕ) (a : Act) → node < length g.nodes → Contains (get_or c.acts node []) a →
      process_count g ≤ a.item →
      arrival_of_act g a ≤ time
  -- the planned ends that nodes have reached, and the actual ends that they have been told, aren't later
  pub ends : (node : ℕ) (e : ℕ × Ended) → node < length g.nodes → Contains (get_or c.ends node []) e → e.0 ≤ time
  pub reports : (node : ℕ) (e : ℕ × Ended) → node < length g.nodes → Contains (get_or c.reports node []) e → e.0 ≤ time

-- in every state of every play of valid tables, all that nodes have done is over by each cycle time
abbrev pub CyclesHoldAll : Type 0
CyclesHoldAll = (g : Graph) (tables : List NodeTable) (time : ℕ) → WellFormed g → HasShape g tables → IsValid g tables →
    IsCycle g tables time →
    (w : World) (turns : List ℕ) → IsWorld g w → IsOverBy g w.scenario (play g w (initial_cluster g tables) turns) time

-- a time at which an occurrence of the node's slot starts
abbrev pub IsOccurrence : Graph → ℕ → ℕ → Type 0
IsOccurrence g node time = (j : ℕ) × (time ≡ occurrence g node j)

-- the occurrences of a node's slot have the same times in a cycle that begins at `begin`, counted from there, as from 0
pub record HasSlotsAt (g : Graph) (node begin : ℕ) : Type 0 where
  -- each time of an occurrence from 0 is one from `begin`
  pub later : (time : ℕ) → IsOccurrence g node time → IsOccurrence g node (begin + time)
  -- each time of an occurrence from `begin` is one from 0
  pub earlier : (time : ℕ) → IsOccurrence g node (begin + time) → IsOccurrence g node time

-- if a node has a slot, its occurrences have the same times in every cycle, counted from the cycle's begin
abbrev pub CyclesHaveTheSameSlots : Type 0
CyclesHaveTheSameSlots =
    (g : Graph) (tables : List NodeTable) (time cycle node : ℕ) → WellFormed g → IsCycle g tables time →
    IsTrue (list_any (λ s. s.node == node) g.slots) → HasSlotsAt g node (cycle * time)

-- What nodes do in `one`, a cycle that begins at `begin` in scenario s, is over before they do anything in `other`,
-- which begins at `later`. So no executions of the two meet on a processor, and no frames in a slot.
pub record AreApart (g : Graph) (s : Scenario) (one other : Cluster) (begin later : ℕ) : Type 0 where
  -- an execution of the one has ended, as planned, by any act of the other
  pub executions : (node there : ℕ) (a b : Act) → node < length g.nodes → Contains (get_or one.acts node []) a →
      Contains (get_or other.acts there []) b →
      a.item < process_count g → begin + end_of_act g s a ≤ later + b.time
  -- a frame of the one has arrived by any act of the other
  pub frames : (node there : ℕ) (a b : Act) → node < length g.nodes → Contains (get_or one.acts node []) a →
      Contains (get_or other.acts there []) b →
      process_count g ≤ a.item → begin + arrival_of_act g a ≤ later + b.time

-- two cycles of valid tables that begin at different multiples of a cycle time are apart, whatever their worlds and
-- plays
abbrev pub CyclesAreApart : Type 0
CyclesAreApart = (g : Graph) (tables : List NodeTable) (time : ℕ) → WellFormed g → HasShape g tables →
    IsValid g tables → IsCycle g tables time →
    (w v : World) (turns others : List ℕ) (cycle later : ℕ) → IsWorld g w → IsWorld g v → cycle < later →
    AreApart g w.scenario (play g w (initial_cluster g tables) turns) (play g v (initial_cluster g tables) others)
    (cycle * time) (later * time)
