-- Loops of `empty_lists`: returns an empty list for each of `count` processes.
use Rattle.std.proofs.Common.{◌≡◌, map, []}
use Rattle.cpg_base.specs.Numbers.{numbers_below}
use Rattle.cpg_order.proofs.links.empty_lists.Given as goal

-- each turn adds one empty list
abbrev pub invariant-loop : goal.invariant-loop
invariant-loop l = l.lists.items ≡ map (λ _. []) (numbers_below l.counter)
