-- Proof of `frames_contradict_where_they_tell`: if no range is empty before a frame, the frame leaves an empty one
-- only at a variable of one of its literals.
use Rattle.cpg_follow_laws.proofs.Ranges.{frames_contradict_where_they_tell as law}
use Rattle.cpg_follow_laws.proofs.frames_contradict_where_they_tell.Goals as goal

-- `frames_contradict_where_they_tell` of `Ranges` proves this law
pub returns : goal.returns
returns c = law
