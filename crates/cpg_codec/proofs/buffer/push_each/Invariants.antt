-- Loops of `push_each`, which adds the bytes of literals, three for each, for which there is room; one literal at a
-- time.
use Rattle.std.proofs.Common.{◌≡◌, ◌+◌, ◌*◌, ◌++◌, take}
use Rattle.std.specs.Prelude.{vec_len, vec_capacity}
use Rattle.std.specs.List.{flat_map}
use Rattle.cpg_codec.specs.Spelling.{literal_bytes}
use Rattle.cpg_codec.proofs.buffer.push_each.Given as goal

-- the bytes are the old ones followed by three for each literal so far; the capacity is unchanged
abbrev pub invariant-loop-literal : goal.invariant-loop-literal
invariant-loop-literal l = record {
  items : l.bytes.items ≡ l.fn.bytes.items ++ flat_map literal_bytes (take l.literal-index l.fn.literals);
  len : vec_len l.bytes ≡ vec_len l.fn.bytes + 3 * l.literal-index;
  capacity : vec_capacity l.bytes ≡ vec_capacity l.fn.bytes;
}
