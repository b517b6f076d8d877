-- Loops of `decides`: whether a process of the node has a condition.
use Rattle.std.proofs.Common.{ℕ, ◌≡◌, ◌<◌, ◌==◌, false}
use Rattle.cpg_base.specs.Graph.{node_of, process_of}
use Rattle.cpg_rules.proofs.slots.decides.Given as goal

-- no condition so far has its process on the node
abbrev pub invariant-loop-condition : goal.invariant-loop-condition
invariant-loop-condition l = (d : ℕ) → d < l.condition → (node_of l.problem (process_of l.problem d) == l.node) ≡ false
