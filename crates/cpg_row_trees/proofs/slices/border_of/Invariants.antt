-- Loops of `border_of`, which returns the border of a slice: the first place from which on all cubes ask for a
-- number above a cut, if those that do are the last ones.
use Rattle.std.proofs.Common.{◌-◌}
use Rattle.cpg_row_trees.proofs.slices.border_of.Given as goal

-- each turn halves what lies between `first` and `end`, so it gets shorter
abbrev pub decreases-loop-first : goal.decreases-loop-first
decreases-loop-first l = l.end - l.first
