-- Proof of `refusals_are_first`: a graph file is refused with a fault exactly if it has that fault, none of an earlier
-- kind anywhere, and none of its kind at an earlier place; no two of its faults stand at one place.
use Rattle.cpg_laws.proofs.Refusals.{refusals_are_first as law}
use Rattle.cpg_laws.proofs.refusals_are_first.Goals as goal

-- the listed faults rise by kind and place, so the one that is told, the first of the list, is the first of all; by
-- proofs/Refusals.antt
pub returns : goal.returns
returns c = law
