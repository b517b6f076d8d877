-- Proof of `step_each`: for each scenario, finds the times of the process at a place and of what it sends.
use Rattle.std.proofs.Common.{◌∙◌, ◌+◌, refl, sym, subst, arith}
use Rattle.std.proofs.lemmas.List.{get_or_default}
use Rattle.cpg_run.specs.Progress.{IsAlong}
use Rattle.cpg_all_runs.proofs.Swept.{stepped_more, stepped_all}
use Rattle.cpg_all_runs.proofs.sweeping.step_each.Goals as goal

-- at first the runs of all scenarios are found before the place, and of none beyond it
pub loop-at-init : goal.loop-at-init
loop-at-init c = let along = c.requires.along in record {
  count = along.count;
  stepped = λ j s p l k. absurd (omega arith);
  others = λ j s p l k. along.each j s p k;
}

-- the scenario's run is one of those that are only found before the place
pub step-requires-clause-along : goal.step-requires-clause-along
step-requires-clause-along c =
    let g = c.args.setting.now.problem.now in
    let scenario = c.index-scenarios-at.result in
    let progress = c.index_mut.result.now in
    subst (λ r. IsAlong g c.args.setting.now.order.now c.args.frozen.now r c.args.place progress)
    (sym c.index-scenarios-at.is)
    (subst (IsAlong g c.args.setting.now.order.now c.args.frozen.now _ c.args.place) (sym c.index_mut.ensures.value)
    (c.loop-at.invariant.others c.loop-at.at scenario progress (omega arith) c.loop-at-test.true))

-- the run of one scenario more is found before the next place, and the others are as they were
pub loop-at-preserved : goal.loop-at-preserved
loop-at-preserved c =
    let g = c.args.setting.now.problem.now in
    let scenarios = c.args.scenarios.now in
    stepped_more g c.args.setting.now.order.now c.args.frozen.now c.args.place scenarios c.loop-at.at
    c.loop-at.found.items _
    c.step.new.self c.loop-at.invariant c.loop-at-test.true
    (λ d. subst (λ s. IsAlong g c.args.setting.now.order.now c.args.frozen.now s (c.args.place + 1) c.step.new.self)
    (c.index-scenarios-at.is ∙ get_or_default scenarios c.loop-at.at c.index-scenarios-at.result d c.loop-at-test.true)
    c.in_ok-step.ensures.along) refl

-- after the loop the runs of all scenarios are found before the next place
pub returns : goal.returns
returns c = stepped_all c.args.setting.now.problem.now c.args.setting.now.order.now c.args.frozen.now c.args.place
    c.args.scenarios.now c.loop-at.at c.loop-at.found.items c.loop-at.invariant
    (omega (arith, c.loop-at-test.false, c.loop-at.auto.at-end))
