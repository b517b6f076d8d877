-- What the nodes did, as events, and the order of these in a trace. `acts` and `ends` are lists for each node: its
-- starts and sends, and its executions' ends, each with its time first.
use Rattle.std.specs.Prelude.{ℕ, ◌≡◌, ◌≤◌, ◌<◌, false, List, [], ◌∷◌, ◌++◌, map, get_or, length, IsPermutation}
use Rattle.std.specs.Prelude.{AllPairs}
use Rattle.std.specs.List.{flat_map}
use Rattle.cpg_base.specs.Numbers.{numbers_below, is_below}
use Rattle.cpg_base.specs.Graph.{Graph, item_at, item_count, process_count}
use Rattle.cpg_base.specs.declared.item.Item.{Item}
use Rattle.cpg_base.specs.declared.item.Item.TheVariants.{Start as StartItem, Message, Broadcast}
use Rattle.cpg_node.specs.Dispatcher.{Act, Ended}
use Rattle.cpg_show.specs.declared.event.EventKind.{EventKind as DeclaredKind}
use Rattle.cpg_show.specs.declared.event.EventKind.TheVariants.{End, Send, Start}
use Rattle.cpg_show.specs.declared.event.TraceEvent.{TraceEvent as ToldEvent}

-- what kind of event it is: the end of an execution, the sending of a message or broadcast, or the start of a process
abbrev pub EventKind : Type 0
EventKind = DeclaredKind

-- what a node did, and when
abbrev pub TraceEvent : Type 0
TraceEvent = ToldEvent

-- the kind of the act on an item, which has the number x: a process is started, any other item is sent
abbrev pub kind_of : Item → ℕ → EventKind
kind_of (StartItem p) x = Start p
kind_of (Message e) x = Send x
kind_of (Broadcast c) x = Send x

-- the act of a node as an event
abbrev pub event_of_act : Graph → ℕ → Act → TraceEvent
event_of_act g node a = record { time = a.time; node = node; kind = kind_of (item_at g a.item) a.item }

-- the end of an execution on a node as an event; e.0 is its time
abbrev pub event_of_end : ℕ → ℕ × Ended → TraceEvent
event_of_end node e = record { time = e.0; node = node; kind = End e.1.process e.1.faults e.1.value }

-- the events of one node: its acts, then its ends
abbrev pub node_events : Graph → List (List Act) → List (List (ℕ × Ended)) → ℕ → List TraceEvent
node_events g acts ends node =
    map (event_of_act g node) (get_or acts node []) ++ map (event_of_end node) (get_or ends node [])

-- the events of all nodes, node by node
abbrev pub all_events : Graph → List (List Act) → List (List (ℕ × Ended)) → List TraceEvent
all_events g acts ends = flat_map (node_events g acts ends) (numbers_below (length g.nodes))

-- the key by which events of one time and node are ordered: ends, then sends, then starts; within a kind by the number
-- of the process or item
abbrev pub kind_key : EventKind → List ℕ
kind_key (End process faults value) = 0 ∷ process ∷ []
kind_key (Send item) = 1 ∷ item ∷ []
kind_key (Start process) = 2 ∷ process ∷ []

-- the key by which events are ordered: by time, then by node, then by kind
abbrev pub event_key : TraceEvent → List ℕ
event_key e = e.time ∷ e.node ∷ kind_key e.kind

-- the list has all events, each as often as there are such, by rising key; if no two have the same key, there is just one
-- such list
pub record AreToldInOrder (g : Graph) (acts : List (List Act)) (ends : List (List (ℕ × Ended)))
    (events : List TraceEvent) : Type 0 where
  -- all events of the nodes, each as often as there are such
  pub all : IsPermutation (all_events g acts ends) events
  -- no event comes after one of a greater key
  pub in_order : AllPairs (λ a b. is_below (event_key b) (event_key a) ≡ false) events

-- an end is of a process of the graph, and has at most the graph's faults
pub record IsEndWithin (g : Graph) (e : ℕ × Ended) : Type 0 where
  -- the process is one of the graph
  pub process : e.1.process < process_count g
  -- it has no more faults than the graph allows
  pub faults : e.1.faults ≤ g.faults

-- an act is on an item of the graph
abbrev pub IsActWithin : Graph → Act → Type 0
IsActWithin g a = a.item < item_count g

-- what a node did is of a process or an item of the graph, and an end has at most the graph's faults
abbrev pub IsKindWithin : Graph → EventKind → Type 0
IsKindWithin g (End process faults value) = (process < process_count g) × (faults ≤ g.faults)
IsKindWithin g (Send item) = item < item_count g
IsKindWithin g (Start process) = process < process_count g
