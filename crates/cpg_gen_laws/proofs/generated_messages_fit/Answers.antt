-- Proof of `generated_messages_fit`: each message of the graph of every number fits into its sender's slot.
use Rattle.cpg_gen_laws.proofs.Kept.{all_fit}
use Rattle.cpg_gen_laws.proofs.generated_messages_fit.Goals as goal

-- messages have one byte and slots eight; by proofs/Kept.antt
pub returns : goal.returns
returns c = all_fit
