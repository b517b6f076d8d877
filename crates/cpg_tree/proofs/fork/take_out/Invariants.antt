-- Loops of `take_out`, which takes `count` items out of a list, from the place `from` on.
use Rattle.std.proofs.Common.{◌≡◌, length}
use Rattle.cpg_tree.proofs.Moves.{moved}
use Rattle.cpg_tree.proofs.fork.take_out.Given as goal

-- the places from `from` up to i have the items from `count` places further on; the others, and the length, are as before
abbrev pub invariant-loop-i : goal.invariant-loop-i
invariant-loop-i g l = record {
  long : length l.out.items ≡ length l.fn.out.items;
  is : l.out.items ≡ moved l.fn.out.items l.from l.count l.i;
}
