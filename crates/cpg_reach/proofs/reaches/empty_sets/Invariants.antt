-- Loops of `empty_sets`, which returns `count` empty sets of variables.
use Rattle.cpg_reach.specs.Walked.{AreEmpty}
use Rattle.cpg_reach.proofs.reaches.empty_sets.Given as goal

-- the sets so far are one for each turn, and empty
abbrev pub invariant-loop : goal.invariant-loop
invariant-loop l = AreEmpty l.counter l.sets.items
