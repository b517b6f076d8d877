-- Loops of `take_columns`, which returns the `count` columns that `bytes` begin with, all lawful, and the bytes after
-- them.
use Rattle.std.proofs.Common.{◌≡◌, ◌++◌, All, length}
use Rattle.std.specs.List.{flat_map}
use Rattle.cpg_table.specs.Lawful.{IsLawfulColumn}
use Rattle.cpg_codec.specs.Spelling.{column_bytes}
use Rattle.cpg_codec.proofs.row_taking.take_columns.Given as goal

-- the bytes are those of the columns so far, followed by the rest; there is a column for each turn, and each is
-- lawful
abbrev pub invariant-loop : goal.invariant-loop
invariant-loop l = record {
  taken : l.fn.bytes ≡ flat_map column_bytes l.columns.items ++ l.rest;
  count : length l.columns.items ≡ l.counter;
  lawful : All (IsLawfulColumn l.fn.space) l.columns.items;
}
