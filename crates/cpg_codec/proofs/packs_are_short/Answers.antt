-- Proof of `packs_are_short`: no pack is longer than 268,435,456 bytes.
use Rattle.cpg_codec.proofs.Lengths.{all_short}
use Rattle.cpg_codec.proofs.packs_are_short.Goals as goal

-- `all_short` of `Lengths` is a proof of this law
pub returns : goal.returns
returns c = all_short
