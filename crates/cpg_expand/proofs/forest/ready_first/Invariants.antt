-- The loop of `ready_first`, which adds for one node after another that it is ready from time 0 on.
use Rattle.std.proofs.Common.{◌≡◌, All, length}
use Rattle.cpg_expand.specs.Forest.{IsWait}
use Rattle.cpg_expand.specs.Grown.{IsReadyFirst}
use Rattle.cpg_expand.proofs.forest.ready_first.Given as goal

-- after each turn, the list has a wait for each node counted so far, and each of them is ready from the beginning on
abbrev pub invariant-loop : goal.invariant-loop
invariant-loop l = (length l.nodes.items ≡ l.counter) × All (IsWait l.problem) l.nodes.items ×
    All (IsReadyFirst l.problem.faults) l.nodes.items
