-- Loops of `empty_rows`: a row without columns for each item of a graph, by number.
use Rattle.std.proofs.Common.{◌≡◌, [], map}
use Rattle.cpg_base.specs.Numbers.{numbers_below}
use Rattle.cpg_list.proofs.items.empty_rows.Given as goal

-- there is a row without columns for each item below `item`, in their order
abbrev pub invariant-loop-item : goal.invariant-loop-item
invariant-loop-item l = l.rows.items ≡ map (λ x. record { item = x; columns = [] }) (numbers_below l.item)
