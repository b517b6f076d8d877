-- The loop of `is_waited_for`, which goes over all processes until one waits for the node: one that isn't frozen and
-- stands on it behind the place `at`.
use Rattle.std.specs.Prelude.{ℕ, ◌≡◌, ◌<◌, false}
use Rattle.cpg_base.specs.Graph.{node_of, is_frozen}
use Rattle.cpg_base.specs.Order.{place}
use Rattle.cpg_expand.proofs.waited.is_waited_for.Given as goal

-- after each process gone over, none of the first `other` processes waits for the node: none stands on it behind the
-- place `at` without being frozen
abbrev pub invariant-loop-other : goal.invariant-loop-other
invariant-loop-other l =
    (q : ℕ) → q < l.other → node_of l.problem q ≡ l.node → l.at < place l.order q → is_frozen l.problem q ≡ false → ⊥
