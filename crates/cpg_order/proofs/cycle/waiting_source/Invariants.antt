-- Loops of `waiting_source`: returns the source of the first input of a waiting process that comes from a waiting
-- process.
use Rattle.std.proofs.Common.{ℕ, ◌<◌, ◌≡◌, get_or}
use Rattle.cpg_base.specs.Graph.{inputs, source}
use Rattle.cpg_order.proofs.cycle.waiting_source.Given as goal

-- no source of the inputs so far waits
abbrev pub invariant-loop-edge : goal.invariant-loop-edge
invariant-loop-edge l =
    (k : ℕ) → k < l.edge-index → get_or l.waiting (source l.problem (get_or (inputs l.problem l.process) k 0)) 0 ≡ 0
