-- Loops of `in_log_order`: all items, those that a log names first, by time, and then the others.
use Rattle.std.proofs.Common.{◌≡◌, map}
use Rattle.cpg_base.specs.Numbers.{numbers_below}
use Rattle.cpg_audit.proofs.log_order.in_log_order.Given as goal

-- after each item, the list has the items so far in the order of their numbers
abbrev pub invariant-loop-item : goal.invariant-loop-item
invariant-loop-item l = map (λ t. t.item) l.ordered.items ≡ numbers_below l.item
