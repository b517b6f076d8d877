-- Loops of `with_keys`, which returns the columns, each with the key of its cube.
use Rattle.std.proofs.Common.{◌≡◌, ◌++◌, map, All}
use Rattle.cpg_cube.specs.Keys.{IsKeyOf}
use Rattle.cpg_cube.proofs.sorting.with_keys.Given as goal

-- the ranked columns and those still to come are all columns, and each ranked one has the key of its cube
abbrev pub invariant-loop-column : goal.invariant-loop-column
invariant-loop-column g l = record {
  columns : l.fn.columns.items ≡ map (λ x. x.column) l.ranked.items ++ l.column-iterator.rest.items;
  keys : All (λ x. IsKeyOf l.variables (g.T.Cubed.cubed x.column) x.key.items) l.ranked.items;
}
