-- Recursion of `fewest`, which returns a lower bound of the faults of scenarios that none of the cubes matches.
use Rattle.std.proofs.Common.{◌+◌, ◌*◌}
use Rattle.cpg_cover.proofs.fewest.+fewest.Given as goal

-- The functions call each other. `fewest` calls the others with one less of depth, which counts eight. They call each
-- other and `fewest` with the same depth, so what is added says which may call which: the greater the lesser.
abbrev pub decreases-fewest : goal.decreases-fewest
decreases-fewest l = l.bound.depth * 8

-- more than for `fewest_with`, which it calls with the same depth
abbrev pub decreases-fewest_by_count : goal.decreases-fewest_by_count
decreases-fewest_by_count l = l.bound.depth * 8 + 2

-- more than for `fewest`, which it calls for both parts with the same depth
abbrev pub decreases-fewest_by_parts : goal.decreases-fewest_by_parts
decreases-fewest_by_parts l = l.bound.depth * 8 + 1

-- more than for `fewest`, which it calls for both values with the same depth
abbrev pub decreases-fewest_by_value : goal.decreases-fewest_by_value
decreases-fewest_by_value l = l.bound.depth * 8 + 1

-- more than for `fewest_by_count` and `fewest_by_value`, one of which it calls with the same depth
abbrev pub decreases-fewest_of_joined : goal.decreases-fewest_of_joined
decreases-fewest_of_joined l = l.bound.depth * 8 + 3

-- more than for `fewest`, which it calls with the same depth
abbrev pub decreases-fewest_with : goal.decreases-fewest_with
decreases-fewest_with l = l.bound.depth * 8 + 1
