-- Loops of `is_forward`: whether each edge leads from an earlier place in the order to a later one.
use Rattle.std.proofs.Common.{ℕ, ◌<◌, ◌≡◌, true}
use Rattle.cpg_base.specs.Graph.{source, target}
use Rattle.cpg_base.specs.Order.{comes_before}
use Rattle.cpg_order.proofs.lists.is_forward.Given as goal

-- the source of each edge so far comes before its target
abbrev pub invariant-loop-edge : goal.invariant-loop-edge
invariant-loop-edge l =
    (e : ℕ) → e < l.edge-index → comes_before l.order (source l.problem e) (target l.problem e) ≡ true
