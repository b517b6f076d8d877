-- Proof of `packs_are_refused_at_one_place`: bytes are a pack, or are refused at one place, and no other.
use Rattle.cpg_laws.proofs.Packs.{packs_are_refused_at_one_place as law}
use Rattle.cpg_laws.proofs.packs_are_refused_at_one_place.Goals as goal

-- reading says where bytes go wrong, and of two such places neither is later; by proofs/Packs.antt
pub returns : goal.returns
returns c = law
