-- Proof of `packs_have_no_proper_prefix`: no pack is a proper prefix of another.
use Rattle.cpg_codec.proofs.Theorems.{no_proper_prefix}
use Rattle.cpg_codec.proofs.packs_have_no_proper_prefix.Goals as goal

-- `no_proper_prefix` of `Theorems` is a proof of this law
pub returns : goal.returns
returns c = no_proper_prefix
