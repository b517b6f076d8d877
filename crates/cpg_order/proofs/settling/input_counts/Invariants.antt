-- Loops of `input_counts`: returns how many inputs each process has, by number.
use Rattle.std.proofs.Common.{◌≡◌, length, map}
use Rattle.cpg_base.specs.Numbers.{numbers_below}
use Rattle.cpg_base.specs.Graph.{inputs}
use Rattle.cpg_order.proofs.settling.input_counts.Given as goal

-- the list has the number of inputs of each process so far
abbrev pub invariant-loop-process : goal.invariant-loop-process
invariant-loop-process l = l.counts.items ≡ map (λ p. length (inputs l.problem p)) (numbers_below l.process)
