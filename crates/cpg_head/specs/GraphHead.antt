-- The head of a pack that is made for a graph.
use Rattle.std.specs.Prelude.{ℕ, ◌+◌, Bool, ◌&&◌, ◌==◌, if◌then◌else◌, List, map, Option, Some, None, is_some, is_none}
use Rattle.std.specs.List.{list_all}
use Rattle.cpg_base.specs.Numbers.{numbers_below}
use Rattle.cpg_base.specs.Graph.{Graph, process_count, process_at, node_of, condition_of}
use Rattle.cpg_base.specs.declared.process.Process.{Process}
use Rattle.cpg_base.specs.Duration.{duration}
use Rattle.cpg_head.specs.Head.{Head, HeadProcess, Extra}

-- what the head says of process p: its name, its node, whether it has a condition, and how long it lasts with 0, 1, .. faults
abbrev pub head_process : Graph → ℕ → HeadProcess
head_process g p = record {
  name = (process_at g p).name;
  node = node_of g p;
  condition = is_some (condition_of g p);
  times = map (duration g p) (numbers_below (g.faults + 1));
}

-- what version 2 of the pack adds for a process
abbrev pub extra_of : Process → Extra
extra_of p = record { release = p.release; deadline = p.deadline }

-- whether a process is released at 0 and has no deadline of its own, so that version 1 says all of it
abbrev pub is_plain : Process → Bool
is_plain p = (p.release == 0) && is_none p.deadline

-- None, which is version 1, if all processes are plain, and otherwise what version 2 adds for each process
abbrev pub extras_of : Graph → Option (List Extra)
extras_of g = if list_all is_plain g.processes then None else Some (map extra_of g.processes)

-- the head for a graph; an edge is the pair of the processes that it leads from and to
abbrev pub head_of : Graph → Head
head_of g = record {
  faults = g.faults;
  nodes = g.nodes;
  processes = map (head_process g) (numbers_below (process_count g));
  edges = map (λ e. (e.from, e.to)) g.edges;
  extras = extras_of g;
}
