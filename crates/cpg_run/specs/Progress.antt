-- How far a run has been found along an order: all that is settled before a place i, and what the next processes wait
-- for.
use Rattle.std.specs.Prelude.{ℕ, ◌+◌, ◌≡◌, ◌<◌, ◌≤◌, ◌⊎◌, true, List, Option, None, Contains, length, get_or, take}
use Rattle.cpg_base.specs.Graph.{Graph, process_count, condition_count, item_count, item_at, node_of, is_sent, home}
use Rattle.cpg_base.specs.Graph.{producer}
use Rattle.cpg_base.specs.Activity.{active, item_active}
use Rattle.cpg_base.specs.Bus.{round}
use Rattle.cpg_base.specs.Order.{place}
use Rattle.cpg_order.specs.Deciding.{decides}
use Rattle.cpg_base.specs.Scenario.{Scenario}
use Rattle.cpg_run.specs.Run.{Times, IsRun, time_in, end_in, heard_there}
use Rattle.cpg_bus.specs.Plan.{queue_of}
use Rattle.cpg_run.specs.Most.{IsMost}

-- the item y is sent by the node in the scenario
pub record IsActed (g : Graph) (s : Scenario) (node y : ℕ) : Type 0 where
  -- it is an item of the graph
  pub within : y < item_count g
  -- it goes over the bus
  pub sent : is_sent g y ≡ true
  -- from this node
  pub home : home g y ≡ node
  -- and is active
  pub active : item_active g s.values (item_at g y) ≡ true

-- the item y is sent by the node in the scenario, for a process before the place i
abbrev pub IsSentBefore : Graph → List ℕ → Scenario → ℕ → ℕ → ℕ → Type 0
IsSentBefore g order s node i y = IsActed g s node y × (place order (producer g y) < i)

-- the item y is sent by p's node in the scenario, for a process before p or as one of the first k items of p's own queue
abbrev pub IsSentBy : Graph → List ℕ → Scenario → ℕ → ℕ → ℕ → Type 0
IsSentBy g order s p k y =
    IsActed g s (node_of g p) y × ((place order (producer g y) < place order p) ⊎ Contains (take k (queue_of g p)) y)

-- from when on a node's slots are free for what comes after an item: a round after it was sent
abbrev pub free_after : Graph → Times → ℕ → ℕ
free_after g t y = time_in t y + round g

-- `v` is when the slots of the node are free: a round after the last item that it sends for a process before the place i,
-- or 0 if it sends none
abbrev pub IsFree : Graph → List ℕ → Scenario → Times → ℕ → ℕ → ℕ → Type 0
IsFree g order s t i node v = IsMost (IsSentBefore g order s node i) (free_after g t) v

-- `v` is when the node is ready: the least time by which each active process before the place i on the node has ended,
-- and the node has heard each condition that decides a process there
pub record IsReady (g : Graph) (order : List ℕ) (s : Scenario) (t : Times) (i node v : ℕ) : Type 0 where
  -- no active process before the place i on the node ends later
  pub ends : (q : ℕ) → q < process_count g → place order q < i → node_of g q ≡ node → active g s.values q ≡ true →
      end_in t q ≤ v
  -- no condition that decides a process before the place i on the node is heard later
  pub heard : (q c : ℕ) → q < process_count g → place order q < i → node_of g q ≡ node → c < condition_count g →
      decides g s.values q c ≡ true → heard_there g t node c ≤ v
  -- no earlier time b will do for both
  pub least : (b : ℕ)
      → ((q : ℕ) → q < process_count g → place order q < i → node_of g q ≡ node →
      active g s.values q ≡ true → end_in t q ≤ b)
      → ((q c : ℕ) → q < process_count g → place order q < i → node_of g q ≡ node → c < condition_count g →
      decides g s.values q c ≡ true →
      heard_there g t node c ≤ b)
      → v ≤ b

-- `known` has the times and ends of the run t that come from processes before the place i, and no others
pub record Knows (g : Graph) (order : List ℕ) (t : Times) (i : ℕ) (known : Times) : Type 0 where
  -- what comes from processes before the place has its time of the run
  pub times : (x : ℕ) → x < item_count g → place order (producer g x) < i →
      get_or known.times x None ≡ get_or t.times x None
  -- nothing is known of the times of what comes from later processes
  pub later : (x : ℕ) → x < item_count g → i ≤ place order (producer g x) → get_or known.times x None ≡ None
  -- the processes before the place have their ends of the run
  pub ends : (p : ℕ) → p < process_count g → place order p < i → get_or known.ends p None ≡ get_or t.ends p None
  -- nothing is known of the ends of later processes
  pub no_ends : (p : ℕ) → p < process_count g → i ≤ place order p → get_or known.ends p None ≡ None

-- the lists are as long as they should be: a time for each item, an end for each process, and for each node when it is
-- ready and when its slots are free
pub record HasPlaces (g : Graph) (known : Times) (ready free : List ℕ) : Type 0 where
  pub times : length known.times ≡ item_count g
  pub ends : length known.ends ≡ process_count g
  pub ready_count : length ready ≡ length g.nodes
  pub free_count : length free ≡ length g.nodes

-- all that is found of the run before the place i: what is known, when each node is ready, and when its slots are free
pub record IsAt (g : Graph) (order : List ℕ) (s : Scenario) (t : Times) (i : ℕ) (known : Times)
    (ready free : List ℕ) : Type 0 where
  -- `known` has the times and the ends that come from processes before the place, and no others
  pub knows : Knows g order t i known
  -- `ready` has for each node when it is ready for its next process
  pub nodes_ready : (node : ℕ) → node < length g.nodes → IsReady g order s t i node (get_or ready node 0)
  -- `free` has for each node from when its slots are free
  pub slots_free : (node : ℕ) → node < length g.nodes → IsFree g order s t i node (get_or free node 0)

-- what is known before the process p sends anything
pub record CanSend (g : Graph) (order : List ℕ) (s : Scenario) (t : Times) (p : ℕ) (known : Times)
    (free : ℕ) : Type 0 where
  -- the end of p is that of the run
  pub ends : end_in known p ≡ end_in t p
  -- nothing of what p sends has a time yet
  pub none : (x : ℕ) → Contains (queue_of g p) x → get_or known.times x None ≡ None
  -- `free` is when the slots of its node are free after what comes from earlier processes
  pub slots_free : IsFree g order s t (place order p) (node_of g p) free

-- the process p has sent the first k items of its queue: `known_old` is what was known before that, `known_new` what is
-- known then
pub record HasSent (g : Graph) (order : List ℕ) (s : Scenario) (t : Times) (p k : ℕ) (known_old known_new : Times)
    (free : ℕ) : Type 0 where
  -- the first k have their times of the run
  pub sent : (x : ℕ) → Contains (take k (queue_of g p)) x → get_or known_new.times x None ≡ get_or t.times x None
  -- every other item is as before
  pub others : (x : ℕ) → (Contains (take k (queue_of g p)) x → ⊥) →
      get_or known_new.times x None ≡ get_or known_old.times x None
  -- `free` is when the slots of the node are free after them
  pub slots_free : IsMost (IsSentBy g order s p k) (free_after g t) free

-- sending changes no end, and adds no place for a time
pub record KeepsEnds (known_old known_new : Times) : Type 0 where
  -- there are as many places for times as before
  pub times : length known_new.times ≡ length known_old.times
  -- the ends are the same
  pub ends : known_new.ends ≡ known_old.ends

-- What is found of a run: its times so far and, for each node, when it is ready and when its slots are free. A node that
-- is ready may still wait for what decides its next process and for that process's inputs.
pub record ProgressState : Type 0 where
  -- the times and the ends so far, with the finish 0
  pub known : Times
  -- for each node when it is ready
  pub ready : List ℕ
  -- for each node from when its slots are free
  pub free : List ℕ

-- `p` is what is found of the scenario's run under these frozen times before the place i of the order
pub record IsAlong (g : Graph) (order : List ℕ) (frozen : List (Option ℕ)) (s : Scenario) (i : ℕ)
    (p : ProgressState) : Type 0 where
  -- the lists have a place for each item, process and node
  pub places : HasPlaces g p.known p.ready p.free
  -- this is what is found of the run
  pub at : (t : Times) → IsRun g order frozen s t → IsAt g order s t i p.known p.ready p.free
