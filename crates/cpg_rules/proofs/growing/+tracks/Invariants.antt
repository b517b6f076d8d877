-- Recursion of `tracks`: counts the tracks that begin with these standings, up to `most`: returns how many there are,
-- and `most` if there are no fewer.
use Rattle.std.proofs.Common.{length}
use Rattle.cpg_rules.proofs.growing.+tracks.Given as goal

-- each call of `tracks` goes to the steps behind the first, so the list gets shorter
abbrev pub decreases-tracks : goal.decreases-tracks
decreases-tracks l = length l.steps.now
