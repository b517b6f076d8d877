-- Loops of `front_from`: how many literals two lists begin with alike, by a place up to which they do.
use Rattle.std.proofs.Common.{◌≡◌, ◌≤◌, ◌-◌, take}
use Rattle.cpg_label.proofs.line.front_from.Given as goal

-- both lists are the same up to `place`, which is not past the last place to compare
abbrev pub invariant-loop-place : goal.invariant-loop-place
invariant-loop-place l = (take l.place l.first ≡ take l.place l.second) × (l.place ≤ l.count)

-- each turn goes on by one place
abbrev pub decreases-loop-place : goal.decreases-loop-place
decreases-loop-place l = l.count - l.place
