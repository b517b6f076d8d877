-- The graph of all instances of several parts. Each part has one instance, a copy of its graph, for each of its periods within
-- the whole.
use Rattle.std.specs.Prelude.{ℕ, ◌+◌, ◌*◌, ◌/◌, List, [], ◌∷◌, ◌++◌, Some, None, codes, length, map}
use Rattle.std.specs.List.{flat_map}
use Rattle.std.specs.Fmt.{decimal}
use Rattle.cpg_base.specs.Numbers.{numbers_below}
use Rattle.cpg_base.specs.Graph.{Graph}
use Rattle.cpg_base.specs.Duration.{lesser_due}
use Rattle.cpg_base.specs.declared.process.Process.{Process}
use Rattle.cpg_base.specs.declared.process.Edge.{Edge}
use Rattle.cpg_hyper.specs.declared.part.Part.{Part}

-- the name of a process in instance i of part p: `p.i.name`
abbrev pub name_in : ℕ → ℕ → List ℕ → List ℕ
name_in p i name = decimal p ++ codes "." ++ decimal i ++ codes "." ++ name

-- The copy of process q in instance i of part p. It has the release of q and, as its deadline, the lesser of q's own
-- and the part's, both later by the periods before the instance.
abbrev pub copied_process : ℕ → ℕ → Part → Process → Process
copied_process p i part q = record q {
  name = name_in p i q.name;
  release = i * part.period + q.release;
  deadline = Some (i * part.period + lesser_due part.problem.deadline q.deadline);
}

-- the copy of an edge; `first` is the number of its instance's first process
abbrev pub copied_edge : ℕ → Edge → Edge
copied_edge first e = record e { from = first + e.from; to = first + e.to }

-- how many processes a part has
abbrev pub size_of : Part → ℕ
size_of part = length part.problem.processes

-- the numbers of a part's instances: one for each of its periods within the whole
abbrev pub instances : ℕ → Part → List ℕ
instances whole part = numbers_below (whole / part.period)

-- the processes of instance i of part p
abbrev pub processes_in : ℕ → Part → ℕ → List Process
processes_in p part i = map (copied_process p i part) part.problem.processes

-- the processes of all instances of part p, one instance after another
abbrev pub processes_of : ℕ → ℕ → Part → List Process
processes_of whole p part = flat_map (processes_in p part) (instances whole part)

-- the processes of all instances of the parts, of which the first has the number p
abbrev pub processes_from : ℕ → ℕ → List Part → List Process
processes_from whole p [] = []
processes_from whole p (part ∷ parts) = processes_of whole p part ++ processes_from whole (p + 1) parts

-- the number of the first process of instance i, if `first` is that of the part's first instance
abbrev pub first_in : ℕ → Part → ℕ → ℕ
first_in first part i = first + i * size_of part

-- the edges of instance i of a part whose first process has the number `first`
abbrev pub edges_in : ℕ → Part → ℕ → List Edge
edges_in first part i = map (copied_edge (first_in first part i)) part.problem.edges

-- the edges of all instances of a part whose first process has the number `first`
abbrev pub edges_of : ℕ → ℕ → Part → List Edge
edges_of whole first part = flat_map (edges_in first part) (instances whole part)

-- the number of the first process behind a part whose first process has the number `first`
abbrev pub after_part : ℕ → ℕ → Part → ℕ
after_part whole first part = first + whole / part.period * size_of part

-- the edges of all instances of the parts, of which the first begins at process `first`
abbrev pub edges_from : ℕ → ℕ → List Part → List Edge
edges_from whole first [] = []
edges_from whole first (part ∷ parts) =
    edges_of whole first part ++ edges_from whole (after_part whole first part) parts

-- the graph of the first part, or an empty one if there is no part
abbrev pub first_graph : List Part → Graph
first_graph [] = record { faults = 0; deadline = 0; nodes = []; slots = []; processes = []; edges = []; order = None }
first_graph (part ∷ parts) = part.problem

-- all parts in one graph: the first part's faults, nodes and slots, the whole as the deadline, and no order
abbrev pub unrolled : ℕ → List Part → Graph
unrolled whole parts =
    record {
      faults = (first_graph parts).faults;
      deadline = whole;
      nodes = (first_graph parts).nodes;
      slots = (first_graph parts).slots;
      processes = processes_from whole 0 parts;
      edges = edges_from whole 0 parts;
      order = None;
    }
