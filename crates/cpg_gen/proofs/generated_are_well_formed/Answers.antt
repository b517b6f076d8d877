-- Proof of `generated_are_well_formed`: the graph of every number is well formed, and each node that sends has a slot.
use Rattle.cpg_gen.proofs.Limits.{generated_well_formed, senders_have_slots}
use Rattle.cpg_gen.proofs.generated_are_well_formed.Goals as goal

-- `generated_well_formed` of `Limits` says just this
pub returns-clause-formed : goal.returns-clause-formed
returns-clause-formed c = generated_well_formed

-- `senders_have_slots` of `Limits` says just this: all four nodes have a slot
pub returns-clause-slots : goal.returns-clause-slots
returns-clause-slots c = senders_have_slots
