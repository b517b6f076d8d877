-- Loops of `edge_tables`, which returns a table for each edge.
use Rattle.std.proofs.Common.{◌≡◌, take, map}
use Rattle.toml.specs.Data.{table}
use Rattle.toml.specs.View.{view}
use Rattle.cpg_reader.specs.WrittenTree.{edge_members}
use Rattle.cpg_reader.proofs.writing.edge_tables.Given as goal

-- after each edge, the list has the table of each edge so far
abbrev pub invariant-loop-edge : goal.invariant-loop-edge
invariant-loop-edge l =
    map view l.made.items ≡ map (λ e. table (edge_members l.problem.processes e)) (take l.edge-index l.edge-items)
