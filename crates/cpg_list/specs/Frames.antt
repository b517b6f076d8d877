-- The literals that frames carry to a node in a scenario: the definitions of `Learning` and `Carried`, with the graph, the
-- rows so far, the scenario and the run of `Frames`.
use Rattle.std.specs.Prelude.{ℕ, ◌≡◌, ◌++◌, List, Option, Contains, get_or, None}
use Rattle.cpg_base.specs.Graph.{Graph, inputs, broadcast_item, message_item}
use Rattle.cpg_cube.specs.declared.column.Column.{Column}
use Rattle.cpg_cube.specs.declared.literal.Literal.{Literal}
use Rattle.cpg_order.specs.Deciding.{deciding}
use Rattle.cpg_run.specs.Carried.{carried_by_row, decided, heard, received, passed}
use Rattle.cpg_run.specs.Found.{columns_of_rows}
use Rattle.cpg_run.specs.Rows.{IsCubeOf}
use Rattle.cpg_list.specs.Learning.{RowTells, heard_of, received_by, received_unless_frozen, start_after}
use Rattle.cpg_list.specs.Narrowing.{IsEntryAt, IsEntryOf, IsNarrowed}
use Rattle.cpg_list.specs.declared.learning.Frames.{Frames}

-- the columns of the rows so far
abbrev pub rows_in : Frames → List (List Column)
rows_in frames = columns_of_rows frames.rows.now

-- the row of the item x has the time of the run in the scenario
abbrev pub Tells : Graph → Frames → ℕ → Type 0
Tells g frames x = RowTells g (rows_in frames) frames.scenario.now frames.times.now x

-- the row of the broadcast of each condition that decides the process p has the time of the run in the scenario
abbrev pub TellsDeciding : Graph → Frames → ℕ → Type 0
TellsDeciding g frames p =
    (c : ℕ) → Contains (deciding g frames.scenario.now.values p) c → Tells g frames (broadcast_item g c)

-- the row of each message to the process p has the time of the run in the scenario
abbrev pub TellsInputs : Graph → Frames → ℕ → Type 0
TellsInputs g frames p = (e : ℕ) → Contains (inputs g p) e → Tells g frames (message_item g e)

-- the literals that the node hears with the broadcast of the condition c; none if the condition is its own
abbrev pub heard_in : Frames → ℕ → ℕ → List Literal
heard_in frames node c = heard_of frames.problem.now (rows_in frames) frames.scenario.now node c

-- the literals that the node of p hears with the broadcasts of the conditions that decide p
abbrev pub heard_at : Frames → ℕ → List Literal
heard_at frames p = heard frames.problem.now (rows_in frames) frames.scenario.now p

-- the literals that come with the edge e; none if it isn't a message
abbrev pub received_in : Frames → ℕ → List Literal
received_in frames e = received_by frames.problem.now (rows_in frames) frames.scenario.now e

-- the literals that come with the messages to p
abbrev pub received_at : Frames → ℕ → List Literal
received_at frames p = received frames.problem.now (rows_in frames) frames.scenario.now p

-- the literals of the messages to p that count for the start of p; none if p is frozen, as its time doesn't depend on them
abbrev pub received_at_start : Frames → ℕ → List Literal
received_at_start frames p = received_unless_frozen frames.problem.now (rows_in frames) frames.scenario.now p

-- `cube_new` is the cube `cube_old` narrowed by the literals
abbrev pub IsNarrowedIn : Frames → List Literal → List Literal → List Literal → Type 0
IsNarrowedIn frames literals cube_old cube_new = IsNarrowed frames.problem.now.faults literals cube_old cube_new

-- `cube` is that of what was carried before p (`earlier`), what decides p, and what broadcasts told of that
abbrev pub HasDecided : Frames → ℕ → List Literal → List Literal → Type 0
HasDecided frames p earlier cube = IsCubeOf frames.problem.now.faults
    (earlier ++ decided frames.problem.now frames.scenario.now p ++ heard_at frames p) cube

-- with `earlier` carried before, `entry` is that of the start of p at a time if the scenario is the least of the entry's cube,
-- and None otherwise
abbrev pub IsStartOf : Frames → ℕ → ℕ → List Literal → Option Column → Type 0
IsStartOf frames time p earlier entry =
    IsEntryOf frames.problem.now frames.scenario.now time
    (start_after frames.problem.now (rows_in frames) frames.scenario.now p earlier) entry

-- with `earlier` carried before, `entry` is that of the start of p at its time of the run if p is active and the scenario is the
-- least of the entry's cube, and None otherwise
abbrev pub IsStartIn : Graph → Frames → ℕ → List Literal → Option Column → Type 0
IsStartIn g frames p earlier entry =
    IsEntryAt g frames.scenario.now (get_or frames.times.now.times p None)
    (start_after g (rows_in frames) frames.scenario.now p earlier) entry

-- `cube_new` is the cube `cube_old` narrowed by what p leaves to the processes after it on its node
abbrev pub IsPassedIn : Graph → Frames → ℕ → List Literal → List Literal → Type 0
IsPassedIn g frames p cube_old cube_new = IsNarrowed g.faults (passed g (rows_in frames) frames.scenario.now p) cube_old cube_new
