-- Loops of `hears_of`: the rows that each node hears.
use Rattle.std.proofs.Common.{◌≡◌, map}
use Rattle.cpg_base.specs.Numbers.{numbers_below}
use Rattle.cpg_table.specs.Writing.{hears_at}
use Rattle.cpg_table.proofs.assembling.hears_of.Given as goal

-- the list has for each node so far the rows of what it hears
abbrev pub invariant-loop-node : goal.invariant-loop-node
invariant-loop-node l = map (λ h. h.items) l.all.items ≡ map (hears_at l.problem l.rows) (numbers_below l.node)
