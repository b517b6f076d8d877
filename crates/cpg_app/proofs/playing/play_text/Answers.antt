-- Proof of `play_text`, which plays valid tables, driven by a number, until each node is done.
use Rattle.std.proofs.Common.{ap, ◌∙◌}
use Rattle.cpg_cluster.specs.Playing.{Playing}
use Rattle.cpg_app.proofs.playing.play_text.Goals as goal

-- the cluster that was driven plays the same graph
pub trace_text-requires : goal.trace_text-requires
trace_text-requires c = ap (λ (p : Playing). p.graph) c.drive-waits.ensures.same
    ∙ ap (λ (p : Playing). p.graph) c.in_ok-cluster.ensures.opened
