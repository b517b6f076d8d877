-- Proof of `latest_are_frozen`: the frozen times of a graph are the latest times of its frozen items over all tracks,
-- as if they were not frozen.
use Rattle.cpg_latest.proofs.latest_are_frozen.Goals as goal
use Rattle.cpg_latest.proofs.OverTracks.{frozen_times}

-- the lemma `frozen_times` is the law
pub returns : goal.returns
returns c = λ g urgency order frozen tracks lates urgent lawful topological are is.
    frozen_times g urgency order frozen tracks lates urgent lawful topological are is
