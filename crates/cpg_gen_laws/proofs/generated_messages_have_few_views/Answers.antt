-- Proof of `generated_messages_have_few_views`: each message of the graph of every number has at most four views,
-- under any order.
use Rattle.cpg_gen_laws.proofs.Narrow.{message_views}
use Rattle.cpg_gen_laws.proofs.generated_messages_have_few_views.Goals as goal

-- a message is frozen, so it depends on the values of at most two conditions; by proofs/Narrow.antt
pub returns : goal.returns
returns c = message_views
