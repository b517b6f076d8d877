-- Loops of `ranks_of`: returns the rank of each condition, by number: the place of its process in the order.
use Rattle.std.proofs.Common.{◌≡◌, map}
use Rattle.cpg_base.specs.Graph.{process_of}
use Rattle.cpg_base.specs.Numbers.{numbers_below}
use Rattle.cpg_base.specs.Order.{place}
use Rattle.cpg_rules.proofs.composing.ranks_of.Given as goal

-- after each condition, `ranks` has the place in the order of the process of each condition so far
abbrev pub invariant-loop-condition : goal.invariant-loop-condition
invariant-loop-condition l =
    l.ranks.items ≡ map (λ c. place l.order (process_of l.problem c)) (numbers_below l.condition)
