-- What the parts of a graph are called.
use Rattle.std.specs.Prelude.{ℕ, List, [], get_or}
use Rattle.cpg_base.specs.Graph.{Graph, process_at}

-- the name of a process, as its bytes
abbrev pub name_of : Graph → ℕ → List ℕ
name_of g p = (process_at g p).name

-- the name of a node, as its bytes; none if there is no such node
abbrev pub node_name : Graph → ℕ → List ℕ
node_name g node = get_or g.nodes node []
