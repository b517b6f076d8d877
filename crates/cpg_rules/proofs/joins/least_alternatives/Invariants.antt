-- Loops of `least_alternatives`: returns the least join that some outcome gives two live inputs, with the least
-- scenario that does, and `None` exactly if no outcome gives a join two.
use Rattle.std.proofs.Common.{◌<◌, ℕ}
use Rattle.cpg_rules.specs.Alternatives.{IsSingleJoin}
use Rattle.cpg_rules.specs.Sharing.{Extends}
use Rattle.cpg_rules.proofs.joins.least_alternatives.Given as goal

-- no process so far is what is looked for
abbrev pub invariant-loop-process : goal.invariant-loop-process
invariant-loop-process l = record {
  -- parts were at most added
  more : Extends l.fn.parts l.parts;
  -- no process so far is a join with two live inputs in some outcome
  before : (q : ℕ) → q < l.process → IsSingleJoin l.problem q;
}
