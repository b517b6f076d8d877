-- Loops of `are_spelled`, which returns whether bytes spell these literals, three for each; `true` guarantees it.
use Rattle.std.proofs.Common.{◌≡◌, ◌*◌, true, take}
use Rattle.std.specs.List.{flat_map}
use Rattle.cpg_codec.specs.Spelling.{literal_bytes}
use Rattle.cpg_codec.proofs.row_taking.are_spelled.Given as goal

-- if `all_spelled` is still true, the literals so far are spelled by the first bytes, three for each
abbrev pub invariant-loop-at : goal.invariant-loop-at
invariant-loop-at g l = l.all_spelled ≡ true → flat_map literal_bytes (take l.at l.literals) ≡ take (3 * l.at) l.bytes
