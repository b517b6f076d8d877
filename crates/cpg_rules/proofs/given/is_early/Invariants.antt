-- Loops of `is_early`: whether a process stands before the source of one of its inputs.
use Rattle.std.proofs.Common.{ℕ, ◌<◌, ◌≡◌, false}
use Rattle.cpg_base.specs.Graph.{source, target}
use Rattle.cpg_base.specs.Order.{comes_before}
use Rattle.cpg_rules.proofs.given.is_early.Given as goal

-- no edge to the process so far has a source behind the process in the order
abbrev pub invariant-loop-edge : goal.invariant-loop-edge
invariant-loop-edge l = (e : ℕ) → e < l.edge-index → target l.problem e ≡ l.process →
    comes_before l.order l.process (source l.problem e) ≡ false
