-- A play under way, as callers of the code see it, and what an answer says of it.
use Rattle.std.specs.Prelude.{ℕ, ◌≡◌, ◌≤◌, ◌<◌, List, [], Some, get_or, length}
use Rattle.cpg_base.specs.Graph.{Graph}
use Rattle.cpg_base.specs.Limits.{IsWithinLimits}
use Rattle.cpg_base.specs.WellFormed.{WellFormed}
use Rattle.cpg_head.specs.GraphHead.{head_of}
use Rattle.cpg_table.specs.Lawful.{AreTablesOf}
use Rattle.cpg_table.specs.Table.{NodeTable}
use Rattle.cpg_table.specs.Shape.{HasShape}
use Rattle.cpg_table.specs.Valid.{IsValid}
use Rattle.cpg_node.specs.Dispatcher.{Act, next}
use Rattle.cpg_cluster.specs.Cluster.{World, Cluster, Answer, Took, Waits, Done, initial_cluster, dispatcher_at, step}
use Rattle.cpg_cluster.specs.Cluster.{IsPlayed}
use Rattle.cpg_cluster.specs.Correct.{IsWorld, IsDue}
use Rattle.cpg_cluster.specs.declared.answered.AskStep.{AskStep}
use Rattle.cpg_cluster.specs.declared.answered.AskStep.TheVariants.{Took as StepTook, Waits as StepWaits}
use Rattle.cpg_cluster.specs.declared.answered.AskStep.TheVariants.{Done as StepDone}

-- a play under way: what it is of, and its state
pub record Playing : Type 0 where
  -- the graph, and the tables by which its nodes act
  pub graph : Graph
  pub tables : List NodeTable
  -- the scenario and the lengths of the executions
  pub world : World
  -- the nodes, and what they have done so far
  pub cluster : Cluster

-- a play before the first turn
abbrev pub opened : Graph → List NodeTable → World → Playing
opened g tables w = record { graph = g; tables = tables; world = w; cluster = initial_cluster g tables }

-- a play after a node is asked
abbrev pub stepped : Playing → ℕ → Playing
stepped p node = record p { cluster = step p.graph p.world p.cluster node }

-- a play of valid tables of a graph within the limits, in a state that some turns lead to
pub record IsPlaying (p : Playing) : Type 0 where
  -- the graph is within the limits and well formed
  pub limits : IsWithinLimits p.graph
  pub formed : WellFormed p.graph
  -- the tables are lawful for it, have its shape and keep the rules
  pub lawful : AreTablesOf (head_of p.graph) p.tables
  pub shape : HasShape p.graph p.tables
  pub valid : IsValid p.graph p.tables
  -- what happens is possible in the graph, and some play reaches the state
  pub world : IsWorld p.graph p.world
  pub played : IsPlayed p.graph p.tables p.world p.cluster

-- the node has a next instant, and no node has an earlier one
pub record HasLeastInstant (p : Playing) (node : ℕ) : Type 0 where
  -- the node's next instant
  pub time : ℕ
  pub comes : next (dispatcher_at p.cluster node) ≡ Some time
  -- no node's comes earlier
  pub least : (other moment : ℕ) → other < length p.graph.nodes → next (dispatcher_at p.cluster other) ≡ Some moment →
      time ≤ moment

-- a node has done all that is due on it
abbrev pub HasDoneAll : Playing → ℕ → Type 0
HasDoneAll p node =
    (acts : List Act) → IsDue p.graph p.tables p.world.scenario node acts → get_or p.cluster.acts node [] ≡ acts

-- the answer, as defined, that the code's answer says
abbrev pub answer_of : AskStep → Answer
answer_of StepTook = Took
answer_of (StepWaits on) = Waits on
answer_of StepDone = Done
