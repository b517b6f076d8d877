-- The loop of `is_queued_from`, which goes over all items until one waits for the node's slots: one that isn't frozen
-- and that the node sends for a process at the place `at` or later.
use Rattle.std.specs.Prelude.{ℕ, ◌≡◌, ◌≤◌, ◌<◌, true, false}
use Rattle.cpg_base.specs.Graph.{home, is_frozen, is_sent, producer}
use Rattle.cpg_base.specs.Order.{place}
use Rattle.cpg_expand.proofs.waited.is_queued_from.Given as goal

-- after each item gone over, none of the first `other` items waits for the slots: none is sent by the node for a
-- process from the place `at` on without being frozen
abbrev pub invariant-loop-other : goal.invariant-loop-other
invariant-loop-other l = (y : ℕ) → y < l.other → is_sent l.problem y ≡ true → home l.problem y ≡ l.node →
    l.at ≤ place l.order (producer l.problem y) → is_frozen l.problem y ≡ false → ⊥
