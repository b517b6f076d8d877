-- The rules on slots: each node that sends has one, and no message is larger than its sender's slot holds.
use Rattle.std.specs.Prelude.{ℕ, ◌≡◌, ◌<◌, Bool, true, false, not, ◌&&◌, ◌||◌, ◌==◌, nat_lt, if◌then◌else◌, List, []}
use Rattle.std.specs.Prelude.{◌∷◌, length}
use Rattle.std.specs.List.{list_any}
use Rattle.cpg_base.specs.Numbers.{numbers_below}
use Rattle.cpg_base.specs.Graph.{Graph, edge_count, condition_count, edge_at, source, node_of, process_of, is_message}
use Rattle.cpg_base.specs.declared.process.Slot.{Slot}

-- whether an edge is a message that a node sends
abbrev pub is_message_of : Graph → ℕ → ℕ → Bool
is_message_of g e node = is_message g e && (node_of g (source g e) == node)

-- whether a node sends a message
abbrev pub sends_message : Graph → ℕ → Bool
sends_message g node = list_any (λ e. is_message_of g e node) (numbers_below (edge_count g))

-- whether a process of the node has a condition
abbrev pub decides : Graph → ℕ → Bool
decides g node = list_any (λ c. node_of g (process_of g c) == node) (numbers_below (condition_count g))

-- whether a node sends anything: a message or, if there are at least two nodes, the broadcast of a condition
abbrev pub is_sender : Graph → ℕ → Bool
is_sender g node = sends_message g node || (nat_lt 1 (length g.nodes) && decides g node)

-- whether a node has a slot
abbrev pub has_slot : Graph → ℕ → Bool
has_slot g node = list_any (λ s. s.node == node) g.slots

-- whether a node sends and has no slot
abbrev pub lacks_slot : Graph → ℕ → Bool
lacks_slot g node = is_sender g node && not (has_slot g node)

-- how many bytes a frame in a node's slot holds, the first of these slots that is the node's; 0 if it has none
abbrev pub bytes_in : List Slot → ℕ → ℕ
bytes_in [] node = 0
bytes_in (s ∷ ss) node = if s.node == node then s.bytes else bytes_in ss node

-- how many bytes a frame of a node of the graph holds; 0 if the node has no slot
abbrev pub slot_bytes : Graph → ℕ → ℕ
slot_bytes g node = bytes_in g.slots node

-- whether an edge is a message that is larger than its sender's slot holds
abbrev pub is_too_big : Graph → ℕ → Bool
is_too_big g e = is_message g e && nat_lt (slot_bytes g (node_of g (source g e))) (edge_at g e).size

-- no message is larger than its slot holds
abbrev pub AllFit : Graph → Type 0
AllFit g = (e : ℕ) → e < edge_count g → is_too_big g e ≡ false

-- this is the least node that sends and has no slot
pub record LacksSlot (g : Graph) (node : ℕ) : Type 0 where
  -- it is a node of the graph
  pub within : node < length g.nodes
  -- it sends and has no slot, and no lesser node does so
  pub lacks : lacks_slot g node ≡ true
  pub before : (other : ℕ) → other < node → lacks_slot g other ≡ false

-- this is the least message that is larger than its sender's slot holds
pub record IsAboveSlot (g : Graph) (e : ℕ) : Type 0 where
  -- it is an edge of the graph
  pub within : e < edge_count g
  -- its message is too big, and that of no lesser edge is
  pub above : is_too_big g e ≡ true
  pub before : (other : ℕ) → other < e → is_too_big g other ≡ false
