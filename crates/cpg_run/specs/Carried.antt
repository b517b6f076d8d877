-- The literals that are carried beside the time of an item in a scenario: those of the numbers from which the time was
-- computed. Throughout, `rows` has the columns of each item, by its number.
use Rattle.std.specs.Prelude.{ℕ, ◌&&◌, ◌==◌, not, if◌then◌else◌, List, [], ◌∷◌, ◌++◌, map, filter, get_or}
use Rattle.std.specs.List.{flat_map}
use Rattle.cpg_base.specs.Graph.{Graph, process_at, node_of, inputs, is_message, message_item, broadcast_item, item_at}
use Rattle.cpg_base.specs.Graph.{is_frozen, producer, process_of, value_variable}
use Rattle.cpg_base.specs.declared.item.Item.{Item}
use Rattle.cpg_base.specs.declared.item.Item.TheVariants.{Start, Message, Broadcast}
use Rattle.cpg_base.specs.Activity.{active, item_active}
use Rattle.cpg_base.specs.Order.{before_on_node}
use Rattle.cpg_order.specs.Deciding.{deciding}
use Rattle.cpg_order.specs.Queue.{queued_before}
use Rattle.cpg_order.specs.Reach.{sent_value}
use Rattle.cpg_base.specs.Scenario.{Scenario, number_of}
use Rattle.cpg_cube.specs.Cube.{matches}
use Rattle.cpg_cube.specs.declared.literal.Literal.{Literal}
use Rattle.cpg_cube.specs.declared.column.Column.{Column}
use Rattle.cpg_table.specs.Heard.{exactly}

-- the columns of an item; none if the rows don't go so far
abbrev pub row_at : List (List Column) → ℕ → List Column
row_at rows x = get_or rows x []

-- the literals of an item's columns that match; in rows with the times of the runs at most one does
abbrev pub carried_by_row : List (List Column) → Scenario → ℕ → List Literal
carried_by_row rows s x = flat_map (λ c. c.cube) (filter (λ c. matches c.cube s) (row_at rows x))

-- the literal that a variable has just its number of the scenario
abbrev pub number_known : Scenario → ℕ → Literal
number_known s v = exactly v (number_of s v)

-- the values of the conditions that decide a process, as literals
abbrev pub decided : Graph → Scenario → ℕ → List Literal
decided g s p = map (λ c. number_known s (value_variable c)) (deciding g s.values p)

-- what the broadcasts told of the conditions that decide a process; one of its own node needs no broadcast
abbrev pub heard : Graph → List (List Column) → Scenario → ℕ → List Literal
heard g rows s p =
    flat_map (λ c. if node_of g (process_of g c) == node_of g p then [] else carried_by_row rows s (broadcast_item g c))
    (deciding g s.values p)

-- what the messages to a process told; an edge within a node isn't a message and tells nothing
abbrev pub received : Graph → List (List Column) → Scenario → ℕ → List Literal
received g rows s p =
    flat_map (λ e. if is_message g e then carried_by_row rows s (message_item g e) else []) (inputs g p)

-- what an execution adds to what its node carries on: what its inputs told, and its fault count. A frozen process starts
-- at one time whatever its inputs told, so it adds its count alone.
abbrev pub executed : Graph → List (List Column) → Scenario → ℕ → List Literal
executed g rows s p = (if (process_at g p).frozen then [] else received g rows s p) ++ number_known s p ∷ []

-- what a node carries on from a process to those after it: what decides the process, what the broadcasts told of that,
-- and its execution if it is active
abbrev pub passed : Graph → List (List Column) → Scenario → ℕ → List Literal
passed g rows s p = decided g s p ++ heard g rows s p ++ (if active g s.values p then executed g rows s p else [])

-- what is carried beside a start: all that its node carries on from earlier processes, what decides it, and what frames
-- told. A frozen start has one time, so only what decides it is carried.
abbrev pub carried_at_start : Graph → List ℕ → List (List Column) → Scenario → ℕ → List Literal
carried_at_start g order rows s p = if (process_at g p).frozen then decided g s p else
    flat_map (passed g rows s) (before_on_node g order p) ++ decided g s p ++ heard g rows s p ++ received g rows s p

-- what is carried beside an end: what is carried beside the start, and the fault count
abbrev pub carried_at_end : Graph → List ℕ → List (List Column) → Scenario → ℕ → List Literal
carried_at_end g order rows s p = carried_at_start g order rows s p ++ number_known s p ∷ []

-- the value that decides whether an item is sent once its producer has ended, as a literal; none if it always is
abbrev pub sent_by_value : Graph → Scenario → ℕ → List Literal
sent_by_value g s x = map (number_known s) (sent_value g (item_at g x))

-- what an item y leaves to those behind it in the queue: what decides whether it is sent and, if it is and isn't frozen,
-- what its time depends on
abbrev pub queued : Graph → List ℕ → List (List Column) → Scenario → ℕ → List Literal
queued g order rows s y = decided g s (producer g y)
    ++ (if active g s.values (producer g y) then sent_by_value g s y else [])
    ++ (if item_active g s.values (item_at g y) && not (is_frozen g y)
    then carried_at_end g order rows s (producer g y) else [])

-- What is carried beside a send: what the queue before it leaves, what is carried at its producer's end, and the value
-- by which it is sent. A frozen message has one time, so only what decides its producer and that value are carried.
abbrev pub carried_at_send : Graph → List ℕ → List (List Column) → Scenario → ℕ → List Literal
carried_at_send g order rows s x = (if is_frozen g x then decided g s (producer g x)
    else flat_map (queued g order rows s) (queued_before g order x) ++ carried_at_end g order rows s (producer g x))
    ++ sent_by_value g s x

-- what is carried beside the time of the item x, which is a start, a message or a broadcast
abbrev pub carried_by_item : Graph → List ℕ → List (List Column) → Scenario → ℕ → Item → List Literal
carried_by_item g order rows s x (Start p) = carried_at_start g order rows s p
carried_by_item g order rows s x (Message e) = carried_at_send g order rows s x
carried_by_item g order rows s x (Broadcast c) = carried_at_send g order rows s x

-- what is carried beside the time of the item that has this number
abbrev pub carried : Graph → List ℕ → List (List Column) → Scenario → ℕ → List Literal
carried g order rows s x = carried_by_item g order rows s x (item_at g x)
