-- Loops of `tested_marks`: marks of the first items, those that pass a test.
use Rattle.std.proofs.Common.{ℕ, ◌≡◌, ◌<◌, length, get_or, true, false}
use Rattle.cpg_violation.proofs.marks.tested_marks.Given as goal

-- there is a mark for each item so far, and a marked item passes the test
abbrev pub invariant-loop-item : goal.invariant-loop-item
invariant-loop-item g l =
    (length l.marks.items ≡ l.item)
    × ((x : ℕ) → get_or l.marks.items x false ≡ true → (x < l.items) × goal.F-post g l.test x true)
