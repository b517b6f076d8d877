-- Proof of `add_inputs`, which adds what the times depend on at which the inputs of a process are there.
use Rattle.std.proofs.Common.{◌≡◌, ◌==◌, ◌∙◌, sym, ap, get_or, eq-eqb}
use Rattle.std.proofs.lemmas.Bool.{ne_eqb}
use Rattle.cpg_base.specs.Graph.{target, edge_at}
use Rattle.cpg_order.specs.Reach.{is_in, input_reach}
use Rattle.cpg_reach.proofs.Adding.{loop_takes, loop_skips}
use Rattle.cpg_reach.proofs.Sends.{no_edge}
use Rattle.cpg_reach.proofs.starting.add_inputs.Goals as goal
use Rattle.cpg_reach.proofs.starting.add_inputs.Goals.{then-edges-edge, else-edges-edge}

-- what this edge depends on is added if it leads to the process; otherwise the set stays, and the edge isn't one of
-- its inputs
pub loop-edge-preserved : goal.loop-edge-preserved
loop-edge-preserved c =
    let at : get_or c.edges-in-loop-edge.result.now c.loop-edge.edge no_edge
    ≡ edge_at c.args.problem.now c.loop-edge.edge =
    ap (λ es. get_or es c.loop-edge.edge no_edge) c.edges-in-loop-edge.ensures.edges in
    elim c.if-edges-edge.branch [
      | then-edges-edge w ↦
          λ v. ap (λ xs. is_in xs v) w.reach-is ∙ loop_takes (input_reach c.args.problem.now c.args.reaches.now)
          (λ e. target c.args.problem.now e == c.args.process) c.loop-edge.edge c.args.reach.now c.loop-edge.reach
          c.loop-edge.invariant w.add_input.new.reach (eq-eqb (target c.args.problem.now c.loop-edge.edge)
          c.args.process (ap (λ e. e.to) (sym at) ∙ w.if-edges-edge.true)) w.add_input.ensures v
      | else-edges-edge w ↦
          λ v. ap (λ xs. is_in xs v) w.reach-is ∙ loop_skips (input_reach c.args.problem.now c.args.reaches.now)
          (λ e. target c.args.problem.now e == c.args.process) c.loop-edge.edge c.args.reach.now c.loop-edge.reach
          c.loop-edge.invariant (ne_eqb (target c.args.problem.now c.loop-edge.edge) c.args.process
          (λ e. w.if-edges-edge.false (ap (λ e. e.to) at ∙ e))) v
    ]
