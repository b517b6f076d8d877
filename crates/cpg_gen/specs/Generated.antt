-- The graph that a number generates. Each process takes its costs and its predecessor from draws of its own.
use Rattle.std.specs.Prelude.{ℕ, ◌+◌, ◌-◌, ◌%◌, min, Bool, true, false, not, ◌&&◌, ◌||◌, ◌==◌, if◌then◌else◌, List, []}
use Rattle.std.specs.Prelude.{◌∷◌, ◌++◌, Option, Some, None, map, sum_by, codes}
use Rattle.std.specs.List.{flat_map}
use Rattle.std.specs.Fmt.{decimal}
use Rattle.cpg_base.specs.Numbers.{numbers_below}
use Rattle.cpg_base.specs.declared.process.Process.{Process}
use Rattle.cpg_base.specs.declared.process.Edge.{Edge}
use Rattle.cpg_base.specs.declared.process.Slot.{Slot}
use Rattle.cpg_base.specs.Graph.{Graph}
use Rattle.cpg_gen.specs.Draws.{number_after, draw_of, nth_draw}

-- the first process has no predecessor, and process 40 is a join of two edges
abbrev pub has_predecessor : ℕ → Bool
has_predecessor i = not (i == 0) && not (i == 40)

-- how many draws process i takes: five for its costs, and one more for its predecessor if it has one
abbrev pub draws_of : ℕ → ℕ
draws_of i = if has_predecessor i then 6 else 5

-- how many draws the processes before process i take
abbrev pub draws_before : ℕ → ℕ
draws_before i = sum_by draws_of (numbers_below i)

-- the number from which the draws of process i start
abbrev pub number_before : ℕ → ℕ → ℕ
number_before number i = number_after number (draws_before i)

-- a letter with a number behind it in decimal
abbrev pub numbered : List ℕ → ℕ → List ℕ
numbered letter i = letter ++ decimal i

-- the name of a node: N0, N1, ..
abbrev pub node_name : ℕ → List ℕ
node_name = numbered (codes "N")

-- the name of a process: p0, p1, ..
abbrev pub process_name : ℕ → List ℕ
process_name = numbered (codes "p")

-- the slot of node n, which lasts 10 and takes messages of up to 8 bytes
abbrev pub slot_of : ℕ → Slot
slot_of n = record { node = n; length = 10; bytes = 8 }

-- process i, whose draws start from x; it runs on one of four nodes
abbrev pub process_from : ℕ → ℕ → Process
process_from x i = record {
  name = process_name i;
  node = i % 4;
  wcet = 1 + nth_draw x 1 50;
  parts = 1 + nth_draw x 2 3;
  alpha = nth_draw x 3 3;
  chi = nth_draw x 4 3;
  mu = nth_draw x 5 5;
  join = i == 40;
  frozen = false;
  release = 0;
  deadline = None;
}

-- the predecessor of process i, by x, the number of its sixth draw: one of the six processes before it, or of all if there
-- are fewer
abbrev pub predecessor_by : ℕ → ℕ → ℕ
predecessor_by x i = i - 1 - draw_of x (min i 6)

-- Processes 10 and 20 have a condition if they have a target: it must be true for targets with an odd number, and false for
-- those with an even one. Edges from other processes depend on nothing.
abbrev pub when_of : ℕ → ℕ → Option Bool
when_of source target = if (source == 10) || (source == 20) then Some (target % 2 == 1) else None

-- an edge whose message, if it has one, is one byte long and frozen
abbrev pub edge_of : ℕ → ℕ → Option Bool → Edge
edge_of source target when = record { from = source; to = target; size = 1; when = when; frozen = true }

-- The edges to process i, by x, the number of its sixth draw. Process 0 has none, and the join, process 40, has one for each
-- value of process 10's condition. Each other process has one from its predecessor.
abbrev pub edges_by : ℕ → ℕ → List Edge
edges_by x i =
    if i == 0 then []
    else if i == 40 then edge_of 10 40 (Some true) ∷ edge_of 10 40 (Some false) ∷ []
    else edge_of (predecessor_by x i) i (when_of (predecessor_by x i) i) ∷ []

-- process i of the graph that a number generates
abbrev pub generated_process : ℕ → ℕ → Process
generated_process number i = process_from (number_before number i) i

-- the edges to process i in the graph that a number generates; its sixth draw is the one behind its five costs
abbrev pub generated_edges : ℕ → ℕ → List Edge
generated_edges number i = edges_by (number_after (number_before number i) 6) i

-- The graph: 60 processes on four nodes with a slot each, for two faults, in no given order. Its edges stand by the process
-- that they lead to.
abbrev pub generated : ℕ → Graph
generated number = record {
  faults = 2;
  deadline = 1000000000;
  nodes = map node_name (numbers_below 4);
  slots = map slot_of (numbers_below 4);
  processes = map (generated_process number) (numbers_below 60);
  edges = flat_map (generated_edges number) (numbers_below 60);
  order = None;
}
