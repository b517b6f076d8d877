-- Loops of `push_literals`, which adds literals as `push_each` does, but in blocks of sixteen, then of eight and of
-- four, since a block is copied at once.
use Rattle.std.proofs.Common.{◌≡◌, ◌+◌, ◌*◌, ◌≤◌, ◌++◌, length}
use Rattle.std.specs.Prelude.{vec_len, vec_capacity}
use Rattle.std.specs.List.{flat_map}
use Rattle.cpg_codec.specs.Spelling.{literal_bytes}
use Rattle.cpg_codec.proofs.buffer.push_literals.Given as goal

-- the bytes so far, followed by those of the literals that are left, are the old bytes followed by those of all
-- literals; `len` counts three bytes a literal, and the capacity doesn't shrink
abbrev pub invariant-loop-block : goal.invariant-loop-block
invariant-loop-block l = record {
  items : l.fn.bytes.items ++ flat_map literal_bytes l.fn.literals ≡ l.bytes.items ++ flat_map literal_bytes l.left;
  len : vec_len l.bytes + 3 * length l.left ≡ vec_len l.fn.bytes + 3 * length l.fn.literals;
  capacity : vec_capacity l.fn.bytes ≤ vec_capacity l.bytes;
}

-- each turn takes sixteen of the literals that are left
abbrev pub decreases-loop-block : goal.decreases-loop-block
decreases-loop-block l = length l.left
