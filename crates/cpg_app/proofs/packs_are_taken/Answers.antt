-- Proof of `packs_are_taken`: if memory suffices, the other commands accept the pack that `compile` wrote for a
-- graph.
use Rattle.cpg_app.proofs.Joined.{packs_are_taken}
use Rattle.cpg_app.proofs.packs_are_taken.Goals as goal

-- `packs_are_taken` of `Joined` proves this law
pub returns : goal.returns
returns c = packs_are_taken
