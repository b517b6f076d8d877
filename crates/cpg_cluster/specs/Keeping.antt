-- The invariant of a cluster between its calls.
use Rattle.std.specs.Prelude.{ℕ, ◌≡◌, ◌≤◌, ◌<◌, ◌+◌, ◌&&◌, ◌==◌, Bool, cond, IsPermutation, nat_le, List, [], Option}
use Rattle.std.specs.Prelude.{Some, None, option_to_list, slice_get, slice_set, length, map, filter, fold, replicate}
use Rattle.std.specs.Prelude.{get_or, All}
use Rattle.std.specs.List.{flat_map, list_any}
use Rattle.std.specs.List.Sorted.{IsNonDecreasingBy}
use Rattle.std.specs.Option.{option_map_or}
use Rattle.std.specs.Global.{Vec}
use Rattle.std.specs.Vec.{vec_capacity}
use Rattle.cpg_base.specs.Graph.{Graph, home, item_at, item_count}
use Rattle.cpg_base.specs.Bus.{slot_length}
use Rattle.cpg_table.specs.Table.{Row, NodeTable, table_at}
use Rattle.cpg_cube.specs.declared.column.Column.{Column}
use Rattle.cpg_node.specs.Dispatcher.{Act, Frame, next, initial_dispatcher, zip_with}
use Rattle.cpg_cluster.specs.Cluster.{Answer, Took, Waits}
use Rattle.cpg_cluster.specs.Taking.{value_of_item, frames_from}
use Rattle.cpg_cluster.specs.declared.member.Member.{Member}

-- whether a frame arrives by this time and may still be sent, given its arrival and its sender's next instant and slot
-- length
abbrev pub waits_until : ℕ → Option ℕ → ℕ → ℕ → Bool
waits_until time comes slot arrival =
    nat_le arrival time && list_any (λ u. nat_le (u + slot) arrival) (option_to_list comes)

-- whether the frame of a column of a hear row, whose time is the arrival, arrives by this time and may still be sent
abbrev pub waits_for : ℕ → Option ℕ → ℕ → Column → Bool
waits_for time comes slot col = waits_until time comes slot col.time

-- whether a hear row, whose sender is given too, is of sender `other` and has a column whose frame arrives by this time
-- and may still be sent
abbrev pub waits_by : ℕ → ℕ → Option ℕ → ℕ → Row → ℕ → Bool
waits_by other time comes slot row sender = (sender == other) && list_any (waits_for time comes slot) row.columns

-- whether member m waits on member o, whose number is `other`, before it takes an instant
abbrev pub waits_between : ℕ → Member → ℕ → Member → Bool
waits_between time m other o = list_any (λ w. w)
    (zip_with (waits_by other time (next o.node.dispatcher) o.slot) m.node.dispatcher.table.hears m.senders.items)

-- the frames of item x, with this value, that arrive at the time from a sender; none if there is no such member
abbrev pub frames_of_member : List Member → Bool → ℕ → ℕ → ℕ → List Frame
frames_of_member members value x time sender =
    option_map_or (λ (m : Member). frames_from value x m.slot time m.acts.items) (slice_get members sender) []

-- the frames of a hear row that arrive at the time from its sender
abbrev pub frames_of_sender : Graph → List Bool → List Member → ℕ → Row → ℕ → List Frame
frames_of_sender g values members time row sender =
    frames_of_member members (value_of_item values (item_at g row.item)) row.item time sender

-- the frames that arrive at the time, given hear rows and their senders, row by row
abbrev pub frames_by : Graph → List Bool → List Member → ℕ → List Row → List ℕ → List Frame
frames_by g values members time rows senders =
    flat_map (λ fs. fs) (zip_with (frames_of_sender g values members time) rows senders)

-- the arrival times in a row if it is of sender `other`, and none otherwise
abbrev pub times_by : ℕ → Row → ℕ → List ℕ
times_by other row sender = cond (sender == other) (map {A = Column} {B = ℕ} (λ c. c.time) row.columns) []

-- the arrival times in all rows of sender `other`, row by row
abbrev pub arrival_times : ℕ → List Row → List ℕ → List ℕ
arrival_times other rows senders = flat_map (λ ts. ts) (zip_with (times_by other) rows senders)

-- these are the arrival times in the rows of sender `other`, in order
pub record IsIndex (rows : List Row) (senders : List ℕ) (other : ℕ) (times : List ℕ) : Type 0 where
  -- each as often as it is in those rows
  pub same : IsPermutation (arrival_times other rows senders) times
  -- from the earliest to the latest
  pub rises : IsNonDecreasingBy (λ (t : ℕ). t) times

-- at the place of each sender below a number are the arrival times in its rows, in order
pub record AreIndexed (rows : List Row) (senders : List ℕ) (number : ℕ) (index : List (Vec ℕ)) : Type 0 where
  -- there is a list for each of these senders
  pub count : length index ≡ number
  -- the default `d` isn't read, since the sender is below the number
  pub each : (b : ℕ) (d : Vec ℕ) → b < number → IsIndex rows senders b (get_or index b d).items

-- the answer of a node with a next instant: it waits on the node that is given, and takes its turn if none is
abbrev pub answer_if : Option ℕ → Answer
answer_if None = Took
answer_if (Some b) = Waits b

-- the notes once an act is noted at its item, in place of any earlier one
abbrev pub note : List (Option Act) → Act → List (Option Act)
note noted act = slice_set noted act.item (Some act)

-- the acts that are noted, by item
abbrev pub noted_of : ℕ → List Act → List (Option Act)
noted_of count acts = fold note (replicate count None) acts

-- a node has done item x at most once, and has noted that act
abbrev pub HasNoted : Member → ℕ → Type 0
HasNoted m x = filter (λ (act : Act). act.item == x) m.acts.items ≡ option_to_list (get_or m.noted.items x None)

-- member m keeps of the graph what node `number` needs, has noted its acts, and has the room for all that it does in a
-- play
pub record Fits (g : Graph) (number : ℕ) (m : Member) : Type 0 where
  -- the sender of each row that it hears
  pub senders : m.senders.items ≡ map (λ (row : Row). home g row.item) m.node.dispatcher.table.hears
  -- the length of its slot
  pub slot : m.slot ≡ slot_length g number
  -- the arrival times of what it hears, by sender
  pub arrivals : AreIndexed m.node.dispatcher.table.hears m.senders.items (length g.nodes) m.arrivals.items
  -- its acts by item
  pub noted : m.noted.items ≡ noted_of (item_count g) m.acts.items
  -- room for all acts, ends and reports of a play
  pub acts : length m.node.dispatcher.table.sends + length m.node.dispatcher.table.starts ≤ vec_capacity m.acts
  pub ends : length m.node.dispatcher.table.own ≤ vec_capacity m.ends
  pub reports : length m.node.dispatcher.table.own ≤ vec_capacity m.reports

-- each member fits as the node whose number is its place
abbrev pub AllFit : Graph → List Member → Type 0
AllFit g members = (i : ℕ) (d : Member) → i < length members → Fits g i (get_or members i d)

-- a node before its first turn, with its table
pub record IsOpen (g : Graph) (number : ℕ) (t : NodeTable) (m : Member) : Type 0 where
  -- its dispatcher has the table and has taken no turn
  pub node : m.node ≡ record { dispatcher = initial_dispatcher t; acts = [] }
  -- what it keeps of the graph: the sender of each row that it hears, its slot's length, and the arrival times by
  -- sender
  pub senders : m.senders.items ≡ map (λ (row : Row). home g row.item) t.hears
  pub slot : m.slot ≡ slot_length g number
  pub arrivals : AreIndexed t.hears m.senders.items (length g.nodes) m.arrivals.items
  -- nothing is done yet
  pub acts : m.acts.items ≡ []
  pub noted : m.noted.items ≡ replicate (item_count g) None
  pub ends : m.ends.items ≡ []
  pub reports : m.reports.items ≡ []
  -- room for all acts, ends and reports of a play
  pub acts_room : length t.sends + length t.starts ≤ vec_capacity m.acts
  pub ends_room : length t.own ≤ vec_capacity m.ends
  pub reports_room : length t.own ≤ vec_capacity m.reports

-- a node's table has hear rows only of items of the graph
abbrev pub HearsItems : Graph → NodeTable → Type 0
HearsItems g t = All (λ (row : Row). row.item < item_count g) t.hears

-- there are `number` members, and each is its node before the first turn, with its table
pub record AreOpen (g : Graph) (tables : List NodeTable) (number : ℕ) (members : List Member) : Type 0 where
  -- there are that many
  pub count : length members ≡ number
  -- the default `d` isn't read, since the place is below the number
  pub each : (i : ℕ) (d : Member) → i < number → IsOpen g i (table_at tables i) (get_or members i d)
