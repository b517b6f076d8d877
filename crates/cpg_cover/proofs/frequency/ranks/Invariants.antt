-- Loops of `ranks`, which returns the literals, each with the count of its variable.
use Rattle.std.proofs.Common.{◌≡◌, take, map}
use Rattle.cpg_cover.proofs.frequency.ranks.Given as goal

-- the ranks are of the literals so far, in their order
abbrev pub invariant-loop-literal : goal.invariant-loop-literal
invariant-loop-literal l = map (λ r. r.literal) l.ranks.items ≡ take l.literal-index l.literals
