-- Loops of `differing`, which returns at which places some column doesn't ask what the last one of the place does,
-- which `amounts` has.
use Rattle.std.proofs.Common.{◌≡◌, length, take}
use Rattle.cpg_merging.specs.Kinds.{AreTold}
use Rattle.cpg_merging.proofs.kinds.differing.Given as goal

-- `long`: there is a mark for each stored amount. `told`: each kind so far asks the amount stored at its place, if no
-- difference is noted there
abbrev pub invariant-loop-kind : goal.invariant-loop-kind
invariant-loop-kind l = record {
  long : length l.differing.items ≡ length l.amounts;
  told : AreTold l.amounts l.differing.items (take l.kind-index l.kinds);
}
