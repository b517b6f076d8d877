-- Loops of `literal_index`: the place of the literal on a variable among literals whose variables rise.
use Rattle.std.proofs.Common.{◌-◌}
use Rattle.cpg_check_quick.proofs.heard_rows.literal_index.Given as goal

-- each step of the search makes the range of places smaller
abbrev pub decreases-loop-first : goal.decreases-loop-first
decreases-loop-first l = l.end - l.first
