-- Loops of `process_tables`, which returns a table for each process.
use Rattle.std.proofs.Common.{◌≡◌, take, map}
use Rattle.std.specs.Prelude.{All}
use Rattle.toml.specs.Data.{table}
use Rattle.toml.specs.View.{view}
use Rattle.cpg_base.specs.Name.{IsName}
use Rattle.cpg_reader.specs.WrittenTree.{process_members}
use Rattle.cpg_reader.proofs.writing.process_tables.Given as goal

-- `made`: the array has the table of each process so far. `named`: the name of each process so far is lawful.
abbrev pub invariant-loop-process : goal.invariant-loop-process
invariant-loop-process l = record {
  made : map view l.made.items
      ≡ map (λ p. table (process_members l.problem.nodes p)) (take l.process-index l.process-items);
  named : All (λ p. IsName p.name) (take l.process-index l.process-items);
}
