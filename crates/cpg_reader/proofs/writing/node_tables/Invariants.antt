-- Loops of `node_tables`, which returns a table for each node.
use Rattle.std.proofs.Common.{◌≡◌, take, map}
use Rattle.std.specs.Prelude.{All}
use Rattle.toml.specs.Data.{table}
use Rattle.toml.specs.View.{view}
use Rattle.cpg_base.specs.Name.{IsName}
use Rattle.cpg_reader.specs.WrittenTree.{node_members}
use Rattle.cpg_reader.proofs.writing.node_tables.Given as goal

-- after each node, the list has the table of each node so far, and each name so far is a valid name
abbrev pub invariant-loop-name : goal.invariant-loop-name
invariant-loop-name l = record {
  made : map view l.made.items ≡ map (λ n. table (node_members n)) (take l.name-index l.name-items);
  named : All IsName (take l.name-index l.name-items);
}
