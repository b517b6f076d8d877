-- Proof of `fronts_of_packs_are_refused`: the first bytes of a pack, if these aren't all, are no pack, and are refused
-- at their end.
use Rattle.cpg_laws.proofs.Fronts.{fronts_of_packs}
use Rattle.cpg_laws.proofs.fronts_of_packs_are_refused.Goals as goal

-- a proper front of a pack is refused where it ends, by proofs/Fronts.antt
pub returns : goal.returns
returns c = fronts_of_packs
