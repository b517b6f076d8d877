-- Loops of `ranks`: returns the rank of each process, by number.
use Rattle.std.proofs.Common.{◌≡◌, map}
use Rattle.cpg_base.specs.Numbers.{numbers_below}
use Rattle.cpg_order.specs.Ranks.{rank_of}
use Rattle.cpg_order.proofs.urgency_order.ranks.Given as goal

-- the list has the rank of each process so far
abbrev pub invariant-loop-process : goal.invariant-loop-process
invariant-loop-process l = l.ranks.items ≡ map (rank_of l.tails) (numbers_below l.process)
