-- Loops of `last_of`: the greatest of a time and of the times of ends.
use Rattle.std.proofs.Common.{◌≡◌, drop, fold, map, max}
use Rattle.cpg_show.proofs.trace.last_of.Given as goal

-- the greatest of `last` and the ends left is the greatest of the time given and all ends
abbrev pub invariant-loop-end : goal.invariant-loop-end
invariant-loop-end l =
    fold max l.last (map (λ e. e.0) (drop l.end-index l.ends)) ≡ fold max l.time (map (λ e. e.0) l.ends)
