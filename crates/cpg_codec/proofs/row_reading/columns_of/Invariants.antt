-- Loops of `columns_of`: reads `count` columns, and returns them with the bytes after them.
use Rattle.std.proofs.Common.{◌≡◌, length}
use Rattle.cpg_codec.specs.Reading.{read_repeated}
use Rattle.cpg_codec.specs.Grammar.{read_column}
use Rattle.cpg_codec.proofs.Loop.{with_front, left_of}
use Rattle.cpg_codec.proofs.row_reading.columns_of.Given as goal

-- the columns so far, one for each turn, in front of what reading the others gives, are what reading all of them
-- gives
abbrev pub invariant-loop : goal.invariant-loop
invariant-loop l = record {
  so_far : with_front l.columns.items (left_of (read_column l.fn.space) l.fn.count l.counter l.rest)
      ≡ read_repeated (read_column l.fn.space) l.fn.count l.fn.bytes;
  count : length l.columns.items ≡ l.counter;
}
