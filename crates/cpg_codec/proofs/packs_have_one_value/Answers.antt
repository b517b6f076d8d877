-- Proof of `packs_have_one_value`: a pack is the spelling of one value: tables with equal spellings are equal.
use Rattle.cpg_codec.proofs.Theorems.{one_value}
use Rattle.cpg_codec.proofs.packs_have_one_value.Goals as goal

-- `one_value` of `Theorems` is a proof of this law
pub returns : goal.returns
returns c = one_value
