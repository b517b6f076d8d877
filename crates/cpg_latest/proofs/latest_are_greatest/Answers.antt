-- Proof of `latest_are_greatest`: the greatest finish and excess of all runs are those of the latest times of all tracks.
use Rattle.cpg_latest.proofs.latest_are_greatest.Goals as goal
use Rattle.cpg_latest.proofs.OverTracks.{greatest_are}

-- the lemma `greatest_are` is the law
pub returns : goal.returns
returns c = λ g urgency order frozen tracks lates urgent lawful topological are.
    greatest_are g urgency order frozen tracks lates urgent lawful topological are
