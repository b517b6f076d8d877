-- Loops of `fewest_of_cube`, which returns how many faults a scenario has at least if a cube doesn't match it: the
-- least of its literals' numbers, and 255 for the cube without literals, which always matches.
use Rattle.std.proofs.Common.{take}
use Rattle.cpg_cover.specs.Fewest.{NeedsOutside}
use Rattle.cpg_cover.proofs.fewest.fewest_of_cube.Given as goal

-- if one of the literals so far fails, there are at least `fewest` faults
abbrev pub invariant-loop-literal : goal.invariant-loop-literal
invariant-loop-literal l = NeedsOutside (take l.literal-index l.literal-items) l.fewest
