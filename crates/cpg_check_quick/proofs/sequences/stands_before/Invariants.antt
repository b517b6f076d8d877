-- Loops of `stands_before`: whether item `first` comes before item `second` in an order that has no item twice.
use Rattle.std.proofs.Common.{ℕ, ◌<◌, ◌≡◌, get_or}
use Rattle.std.specs.Bool.{OnTrue}
use Rattle.cpg_check_quick.proofs.sequences.stands_before.Given as goal

-- if `is_past` is true, `first` is at one of the places so far
abbrev pub invariant-loop-item : goal.invariant-loop-item
invariant-loop-item l = OnTrue l.is_past ((i : ℕ) × (i < l.item-index) × (get_or l.order i 0 ≡ l.first))
