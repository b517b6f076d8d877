-- Loops of `first_early`: returns the first process in an order that stands before the source of one of its inputs,
-- and `None` exactly if none does.
use Rattle.std.proofs.Common.{ℕ, ◌≡◌, take, Contains, false}
use Rattle.cpg_rules.specs.Given.{is_early}
use Rattle.cpg_rules.proofs.given.first_early.Given as goal

-- no process of the order so far is early: each stands behind the sources of its inputs
abbrev pub invariant-loop-process : goal.invariant-loop-process
invariant-loop-process l = (q : ℕ) → Contains (take l.process-index l.order) q → is_early l.problem l.order q ≡ false
