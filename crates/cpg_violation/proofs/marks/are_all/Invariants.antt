-- Loops of `are_all`: whether each of the first `items` items is marked.
use Rattle.std.proofs.Common.{ℕ, ◌≡◌, ◌<◌, get_or, true, false}
use Rattle.cpg_violation.proofs.marks.are_all.Given as goal

-- each item so far is marked
abbrev pub invariant-loop-item : goal.invariant-loop-item
invariant-loop-item l = (x : ℕ) → x < l.item → get_or l.marks x false ≡ true
