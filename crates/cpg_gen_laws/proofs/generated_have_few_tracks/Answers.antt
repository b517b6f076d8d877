-- Proof of `generated_have_few_tracks`: the graph of every number has at most four tracks.
use Rattle.cpg_gen_laws.proofs.Kept.{few_tracks}
use Rattle.cpg_gen_laws.proofs.generated_have_few_tracks.Goals as goal

-- there are two conditions, and so four outcomes; by proofs/Kept.antt
pub returns : goal.returns
returns c = few_tracks
