-- The plan of a graph, which is found once for all runs: the edges of each process, what each process sends in the order
-- of its node's queue, and the nodes' shares of the bus.
use Rattle.std.specs.Prelude.{ℕ, ◌==◌, if◌then◌else◌, nat_lt, List, [], ◌∷◌, ◌++◌, Option, Some, None, map, filter}
use Rattle.std.specs.Prelude.{length}
use Rattle.std.specs.List.{list_any}
use Rattle.cpg_base.specs.Numbers.{numbers_below}
use Rattle.cpg_base.specs.Bus.{round}
use Rattle.cpg_bus.specs.Share.{ShareState, share_of}
use Rattle.cpg_base.specs.Graph.{Graph, process_count, outputs, condition_of, is_message, message_item, broadcast_item}
use Rattle.cpg_order.specs.Links.{EdgeLists, links_of}

-- the broadcast of a process's condition; none if it has no condition, or there is no second node to hear it
abbrev pub broadcasts_of : Graph → Option ℕ → List ℕ
broadcasts_of g None = []
broadcasts_of g (Some c) = if nat_lt 1 (length g.nodes) then broadcast_item g c ∷ [] else []

-- the items that a process sends, as its node's queue has them: its broadcast, then its messages by number
abbrev pub queue_of : Graph → ℕ → List ℕ
queue_of g p = broadcasts_of g (condition_of g p) ++ map (message_item g) (filter (is_message g) (outputs g p))

-- the share of a node, if it has a slot
abbrev pub share_if : Graph → ℕ → Option ShareState
share_if g node = if list_any (λ s. s.node == node) g.slots then Some (share_of g node) else None

-- how `Plan` of the code is seen
pub record PlanState : Type 0 where
  -- the edges of each process
  pub links : EdgeLists
  -- by process, the items that it sends, as its node's queue has them
  pub queues : List (List ℕ)
  -- the share of each node, if it has a slot, by node number
  pub shares : List (Option ShareState)
  -- the length of the round, in time units
  pub round : ℕ

-- the plan of a graph
abbrev pub plan_of : Graph → PlanState
plan_of g = record {
  links = links_of g;
  queues = map (queue_of g) (numbers_below (process_count g));
  shares = map (share_if g) (numbers_below (length g.nodes));
  round = round g;
}
