-- Loops of `ends_of_last`, which returns how many leaves the tree of the ends has, for the last process of a chain
-- of 40 with at most two faults.
use Rattle.std.proofs.Common.{◌≡◌}
use Rattle.cpg_tests.proofs.tree_tests.ends_of_last.Given as goal

-- the tree of the ends so far is still one for two faults
abbrev pub invariant-loop-process : goal.invariant-loop-process
invariant-loop-process l = l.ready.faults ≡ 2
