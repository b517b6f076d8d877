-- Loops of `list_unknown`: writes to `bounds`, in place of what is there, the lows and highs of the literals on
-- variables that aren't marked as known, as far as they leave out a number that a variable may have with at most `k`
-- faults.
use Rattle.std.proofs.Common.{◌≡◌, ◌++◌, drop, flat_map}
use Rattle.cpg_check_quick.specs.Bounds.{unknown_bounds}
use Rattle.cpg_check_quick.proofs.bounds.list_unknown.Given as goal

-- the bounds of all literals on unknown variables are those listed so far, and then those of the literals to come
abbrev pub invariant-loop-literal : goal.invariant-loop-literal
invariant-loop-literal l = flat_map (unknown_bounds l.k l.known) l.literals ≡ l.bounds.items
    ++ flat_map (unknown_bounds l.k l.known) (drop l.literal-index l.literals)
