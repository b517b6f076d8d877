-- Proof of `active_processes`: returns the processes that are active in a scenario, the lowest first.
use Rattle.std.proofs.Common.{◌∙◌, ap, sym}
use Rattle.cpg_base.specs.Activity.{active}
use Rattle.cpg_base.proofs.Lists.{filter_below_takes, filter_below_skips}
use Rattle.cpg_tracks.proofs.track.active_processes.Goals as goal
use Rattle.cpg_tracks.proofs.track.active_processes.Goals.{then-active+in_ok-push, else-active}

-- an active process is listed, and an inactive one is passed over
pub loop-process-preserved : goal.loop-process-preserved
loop-process-preserved c = let admitted = c.requires.admitted in
    let is = sym (c.active.ensures.active c.args.problem.now admitted.0 admitted.1.guards) in
    elim c.if-active.branch [
      -- the process is active: it is added
      | then-active+in_ok-push w ↦ filter_below_takes (active c.args.problem.now c.args.scenario.now.values)
          c.loop-process.processes.items c.if-active.processes.items c.loop-process.process
          c.loop-process.invariant
          (is ∙ w.if-active.true) (ap (λ v. v.items) w.processes-is ∙ w.in_ok-push.ensures.items)
      -- it is inactive: it is passed over
      | else-active w ↦ ap (λ v. v.items) w.processes-is
          ∙ filter_below_skips (active c.args.problem.now c.args.scenario.now.values) c.loop-process.processes.items
          c.loop-process.process c.loop-process.invariant
          (is ∙ w.if-active.false)
    ]
