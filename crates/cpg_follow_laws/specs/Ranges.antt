-- The ranges that a live node holds of what it has heard: none is empty.
use Rattle.std.specs.Prelude.{ℕ, ◌≡◌, ◌≤◌, List, All}
use Rattle.std.specs.List.{list_any}
use Rattle.cpg_cube.specs.declared.literal.Literal.{Literal}
use Rattle.cpg_table.specs.Table.{NodeTable}
use Rattle.cpg_node.specs.Dispatcher.{Frame, OwnTable, Range, frame_literals, hear_frame, is_contradicted, range_of}
use Rattle.cpg_live.specs.Stream.{after}

-- a range has a number
abbrev pub HasNumber : Range → Type 0
HasNumber r = r.low ≤ r.high

-- whatever a node's table, and whatever bytes it is fed, each range that it then holds has a number
abbrev pub NoRangeIsEmpty : Type 0
NoRangeIsEmpty = (table : NodeTable) (bytes : List ℕ) → All HasNumber (after table bytes).progress.dispatcher.heard

-- If no range is empty before a frame, the frame leaves an empty one only at a variable of one of its literals. So it
-- is enough to look at these.
abbrev pub FramesContradictWhereTheyTell : Type 0
FramesContradictWhereTheyTell = (table : OwnTable) (heard : List Range) (f : Frame) → All HasNumber heard →
    list_any is_contradicted (hear_frame table heard f) ≡ list_any
    (λ (l : Literal). is_contradicted (range_of (hear_frame table heard f) l.variable)) (frame_literals table f)
