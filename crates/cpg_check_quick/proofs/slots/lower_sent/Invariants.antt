-- Loops of `lower_sent`: the items with lower numbers that the node of an item sends, by number.
use Rattle.std.proofs.Common.{◌≡◌, ◌==◌, ◌&&◌, filter}
use Rattle.cpg_base.specs.Graph.{home, is_sent}
use Rattle.cpg_base.specs.Numbers.{numbers_below}
use Rattle.cpg_check_quick.proofs.slots.lower_sent.Given as goal

-- after each item, the list has those items so far that the node of the given one sends
abbrev pub invariant-loop-other : goal.invariant-loop-other
invariant-loop-other l = l.lower.items
    ≡ filter (λ y. is_sent l.problem y && (home l.problem y == home l.problem l.item)) (numbers_below l.other)
