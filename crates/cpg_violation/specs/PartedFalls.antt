-- Each side of a cut is smaller than the whole.
use Rattle.std.specs.Prelude.{◌≤◌, max}
use Rattle.std.proofs.Common.{arith}
use Rattle.cpg_violation.specs.declared.sieve.SieveNode.{SieveNode}
use Rattle.cpg_violation.specs.declared.sieve.SieveNode.TheVariants.{Leaf, Cut}
use Rattle.cpg_violation.specs.declared.sieve.Sieve.TheDeep.{deep-SieveNode}
use Rattle.cpg_violation.specs.Parted.{size_of}
use Rattle.cpg_violation.specs.PartedView.{parted_of}

-- a node is nested no deeper than its tree has leaves and cuts, so a walk down its sides ends
pub deep_le-size : (n : SieveNode) → max (deep-SieveNode n) 0 ≤ size_of (parted_of n)
deep_le-size (Leaf places) = omega arith
deep_le-size (Cut v most below above) = omega arith
