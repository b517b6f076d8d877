-- The words for what a node does with an item: it starts a process, sends a message, tells the value of a condition (by
-- a broadcast), or hears a message or such a value.
use Rattle.std.specs.Prelude.{ℕ, ◌+◌, ◌-◌, nat_lt, if◌then◌else◌, List, ◌++◌, codes, length}
use Rattle.std.specs.Fmt.{decimal}
use Rattle.cpg_base.specs.declared.item.Item.{Item}
use Rattle.cpg_base.specs.declared.item.Item.TheVariants.{Start, Message, Broadcast, Start as StartItem}
use Rattle.cpg_label.specs.Labels.{Labels, process_name, condition_name, edge_ends}

-- the item with the number x: processes come first, then edges, then conditions; a number beyond all is a broadcast
abbrev pub item_among : ℕ → ℕ → ℕ → Item
item_among processes edges x = if nat_lt x processes then Start x else
    if nat_lt x (processes + edges) then Message (x - processes)
    else Broadcast (x - processes - edges)

-- the item with the number x in a graph of which the labels are known
abbrev pub item_of : Labels → ℕ → Item
item_of labels x = item_among (length labels.processes) (length labels.edges) x

-- an edge: its number, and the names of its source and its target
abbrev pub edge_text : Labels → ℕ → List ℕ
edge_text labels e = codes "e" ++ decimal e ++ codes " " ++ process_name labels (edge_ends labels e).0 ++ codes ">"
    ++ process_name labels (edge_ends labels e).1

-- what the node of an item does with it
abbrev pub act_text : Labels → Item → List ℕ
act_text labels (Start p) = codes "start " ++ process_name labels p
act_text labels (Message e) = codes "send " ++ edge_text labels e
act_text labels (Broadcast c) = codes "tell " ++ condition_name labels c

-- what another node hears of an item; that of a start isn't used, since no node hears one
abbrev pub hear_text : Labels → Item → List ℕ
hear_text labels (Start p) = codes "hear " ++ process_name labels p
hear_text labels (Message e) = codes "hear " ++ edge_text labels e
hear_text labels (Broadcast c) = codes "hear " ++ condition_name labels c

-- what is done with an item, as a trace says it: a message has only the number of its edge
abbrev pub done_text : Labels → Item → List ℕ
done_text labels (StartItem p) = codes "start " ++ process_name labels p
done_text labels (Message e) = codes "send e" ++ decimal e
done_text labels (Broadcast c) = codes "tell " ++ condition_name labels c
