-- Proof of `run_by`: the run of a scenario in a setting that is made once for many.
use Rattle.std.proofs.Common.{◌≡◌, ap, sym, subst, length, arith}
use Rattle.cpg_base.specs.Graph.{process_count}
use Rattle.cpg_run.specs.Run.{IsRun}
use Rattle.cpg_run.specs.Progress.{IsAt}
use Rattle.cpg_run.proofs.Along.{at_last}
use Rattle.cpg_run.proofs.running.run_by.Goals as goal

-- the loop ends after the last place, before which all times are those of the run; with the greatest end they are the run
pub returns : goal.returns
returns c =
    let g = c.args.setting.now.problem.now in
    let order = c.args.setting.now.order.now in
    let all : c.loop-place.place ≡ process_count g =
    omega (arith, ap length c.processes.ensures.processes, c.loop-place-test.false, c.loop-place.auto.place-end) in
    -- what the progress knows then is what the run has
    let at = c.loop-place.invariant in
    subst (IsRun g order c.args.frozen.now c.args.scenario.now) (sym c.finished.ensures)
    (at_last g order c.requires.setting.topological c.args.frozen.now c.args.scenario.now c.loop-place.progress.known
    at.places.times at.places.ends
    (λ t run. (subst (λ i. IsAt g order c.args.scenario.now t i c.loop-place.progress.known c.loop-place.progress.ready
    c.loop-place.progress.free) all (at.at t run)).knows))
