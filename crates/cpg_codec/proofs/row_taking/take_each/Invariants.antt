-- Loops of `take_each`, which appends the first `count` literals of `bytes` to `held`, and returns the bytes after
-- them; `Odd` if the bytes end too early.
use Rattle.std.proofs.Common.{◌≡◌, ◌+◌, ◌++◌, length}
use Rattle.std.specs.List.{flat_map}
use Rattle.cpg_codec.specs.Spelling.{literal_bytes}
use Rattle.cpg_codec.proofs.row_taking.take_each.Given as goal

-- the literals held now and the rest spell what the literals held at first and all bytes spell; each turn adds a
-- literal
abbrev pub invariant-loop : goal.invariant-loop
invariant-loop l = record {
  taken : flat_map literal_bytes l.fn.held.items ++ l.fn.bytes ≡ flat_map literal_bytes l.held.items ++ l.rest;
  count : length l.held.items ≡ length l.fn.held.items + l.counter;
}
