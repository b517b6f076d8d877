-- Proof of `bytes_spell_events`: the bytes that spell lawful events and a close are a lawful stream, on which the
-- node does what it does on the events.
use Rattle.cpg_live.proofs.Spelling.{bytes_spell as law}
use Rattle.cpg_live.proofs.bytes_spell_events.Goals as goal

-- `bytes_spell` of `Spelling` is a proof of this law
pub returns : goal.returns
returns c = law
