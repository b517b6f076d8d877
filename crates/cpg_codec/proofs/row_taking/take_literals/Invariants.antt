-- Loops of `take_literals`, which puts the first `count` literals of `bytes` in place of those that `held` had, and
-- returns the bytes after them; `Odd` if the bytes end too early.
use Rattle.std.proofs.Common.{◌≡◌, ◌+◌, ◌++◌, length}
use Rattle.std.specs.List.{flat_map}
use Rattle.cpg_codec.specs.Spelling.{literal_bytes}
use Rattle.cpg_codec.proofs.row_taking.take_literals.Given as goal

-- the bytes are those of the literals held, followed by the rest; the literals held and those left make up the count
abbrev pub invariant-loop-left : goal.invariant-loop-left
invariant-loop-left l = record {
  taken : l.fn.bytes ≡ flat_map literal_bytes l.held.items ++ l.rest;
  count : length l.held.items + l.left ≡ l.fn.count;
}

-- each turn takes eight of the literals that are left
abbrev pub decreases-loop-left : goal.decreases-loop-left
decreases-loop-left l = l.left
