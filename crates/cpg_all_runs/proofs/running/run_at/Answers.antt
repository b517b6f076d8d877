-- Proof of `run_at`: the run of the scenario at a place of a list, given the place of one that has the same runs.
use Rattle.std.proofs.Common.{get_or, sym, subst}
use Rattle.std.proofs.lemmas.List.{get_or_default}
use Rattle.cpg_base.specs.Scenario.{zero_scenario}
use Rattle.cpg_run.specs.Run.{IsRun}
use Rattle.cpg_all_runs.specs.FirstAlike.{scenario_at}
use Rattle.cpg_all_runs.proofs.running.run_at.Goals as goal

-- the run of the earlier scenario is known, and a run of it is one of this scenario, as they have the same runs
pub returns-then-first-at : goal.returns-then-first-at
returns-then-first-at c s =
    let g = c.args.setting.now.problem.now in
    let order = c.args.setting.now.order.now in
    let frozen = c.args.frozen.now in
    let scenarios = c.args.scenarios.now in
    let t = c.index-runs-first.result in
    let run = subst (IsRun g order frozen (scenario_at g scenarios c.args.first)) (sym c.index-runs-first.is)
    (c.requires.runs.each c.args.first (zero_scenario g) t c.if-first-at.true) in
    subst (IsRun g order frozen (get_or scenarios c.args.at s)) (sym c.in_ok-run.ensures)
    (subst (λ z. IsRun g order frozen z t) (get_or_default scenarios c.args.at (zero_scenario g) s c.requires.at)
    (c.requires.first.onward order frozen t c.requires.setting.topological run))
