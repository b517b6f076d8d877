-- Which items a node starts, sends and hears under a head, and what it needs to know of its own processes. Items are
-- numbered: first the processes (their starts), then the edges (messages), then the conditions (broadcasts).
use Rattle.std.specs.Prelude.{ℕ, ◌+◌, Bool, false, not, ◌&&◌, ◌==◌, nat_lt, if◌then◌else◌, List, [], ◌∷◌, ◌++◌, Option}
use Rattle.std.specs.Prelude.{Some, None, length, filter, get_or, map}
use Rattle.cpg_head.specs.Head.{Head}
use Rattle.cpg_head.specs.declared.head_parts.HeadProcess.{HeadProcess}
use Rattle.cpg_table.specs.Table.{Row}
use Rattle.cpg_table.specs.declared.own.Own.{Own}
use Rattle.cpg_base.specs.Numbers.{numbers_below}
use Rattle.cpg_base.specs.Graph.{Graph, condition_of}
use Rattle.cpg_base.specs.Duration.{duration}

-- the numbers of the elements that pass a test, if the first element has the number i
abbrev pub numbers_where : {X : Type 0} → (X → Bool) → ℕ → List X → List ℕ
numbers_where test i [] = []
numbers_where test i (x ∷ xs) = if test x then i ∷ numbers_where test (i + 1) xs else numbers_where test (i + 1) xs

-- the node that process p runs on; 0 if there is no such process
abbrev pub head_node_of : Head → ℕ → ℕ
head_node_of h p = (get_or h.processes p (record { name = []; node = 0; condition = false; times = [] })).node

-- the processes that have a condition, in the order of their conditions
abbrev pub conditioned : Head → List HeadProcess
conditioned h = filter (λ p. p.condition) h.processes

-- whether an edge, from process e.0 to process e.1, leads from a node to another
abbrev pub leaves : Head → ℕ → ℕ × ℕ → Bool
leaves h node e = (head_node_of h e.0 == node) && not (head_node_of h e.1 == node)

-- whether an edge, from process e.0 to process e.1, leads to a node from another
abbrev pub enters : Head → ℕ → ℕ × ℕ → Bool
enters h node e = not (head_node_of h e.0 == node) && (head_node_of h e.1 == node)

-- the number of the first message
abbrev pub first_message : Head → ℕ
first_message h = length h.processes

-- the number of the first broadcast
abbrev pub first_broadcast : Head → ℕ
first_broadcast h = length h.processes + length h.edges

-- what a node starts: its own processes
abbrev pub starts_of : Head → ℕ → List ℕ
starts_of h node = numbers_where (λ p. p.node == node) 0 h.processes

-- what a node sends: its messages to other nodes and, if there are other nodes, the broadcasts of its own conditions
abbrev pub sends_of : Head → ℕ → List ℕ
sends_of h node = numbers_where (leaves h node) (first_message h) h.edges
    ++ (if nat_lt 1 (length h.nodes)
    then numbers_where (λ p. p.node == node) (first_broadcast h) (conditioned h) else [])

-- what a node hears: the messages to it from other nodes, and the broadcasts of their conditions
abbrev pub hears_of : Head → ℕ → List ℕ
hears_of h node = numbers_where (enters h node) (first_message h) h.edges
    ++ numbers_where (λ p. not (p.node == node)) (first_broadcast h) (conditioned h)

-- the numbers of what a node starts, sends and hears, each list rising
pub record ItemLists : Type 0 where
  pub starts : List ℕ
  pub sends : List ℕ
  pub hears : List ℕ

-- the lists of a node's items under a head
abbrev pub lists_of : Head → ℕ → ItemLists
lists_of h node = record { starts = starts_of h node; sends = sends_of h node; hears = hears_of h node }

-- what a node needs to know of process q, which has the number p and, if it has a condition, the condition c; nothing if
-- q is on another node
abbrev pub own_front : ℕ → ℕ → ℕ → HeadProcess → List Own
own_front node p c q = if q.node == node
    then record { process = p; condition = if q.condition then Some c else None; times = q.times } ∷ [] else []

-- what a node needs to know of those processes of a list that are on it; the first process of the list has the number p,
-- and its first condition the number c
abbrev pub own_from : ℕ → ℕ → ℕ → List HeadProcess → List Own
own_from node p c [] = []
own_from node p c (q ∷ qs) = own_front node p c q ++ own_from node (p + 1) (if q.condition then c + 1 else c) qs

-- what a node needs to know of its own processes
abbrev pub own_of : Head → ℕ → List Own
own_of h node = own_from node 0 0 h.processes

-- the rows after one row of each of these items, in their order; None if the rows don't begin with such
abbrev pub after_items : List ℕ → List Row → Option (List Row)
after_items [] rows = Some rows
after_items (x ∷ xs) [] = None
after_items (x ∷ xs) (row ∷ rows) = if row.item == x then after_items xs rows else None

-- what a node needs to know of its own process p, by the graph: durations are with 0, 1, .. faults
abbrev pub own_process : Graph → ℕ → Own
own_process g p =
    record { process = p; condition = condition_of g p; times = map (duration g p) (numbers_below (g.faults + 1)) }
