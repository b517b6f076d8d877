-- Proof of `unfrozen_time`: the greatest time over all scenarios that an item would have if it were not frozen, in time
-- units, or `None` if it is never active.
use Rattle.std.proofs.Common.{◌+◌, ◌∙◌, sym, ap, subst, arith}
use Rattle.cpg_run.proofs.RunExists.{a_run}
use Rattle.cpg_run.specs.Progress.{IsAlong}
use Rattle.cpg_run.specs.Latest.{later}
use Rattle.cpg_all_runs.proofs.Latests.{IsLatest, latest_more, latest_is}
use Rattle.cpg_all_runs.proofs.latest.unfrozen_time.Goals as goal

-- `along` says of each scenario that what is found of it is that of its run before the place, and so of this one
pub time_there-requires-clause-along : goal.time_there-requires-clause-along
time_there-requires-clause-along c =
    let g = c.args.setting.now.problem.now in
    let scenario = c.index-scenarios-at.result in
    let progress = c.index-found-at.result in
    let along = c.requires.along in
    subst (λ r. IsAlong g c.args.setting.now.order.now c.args.frozen.now r c.args.place progress)
    (sym c.index-scenarios-at.is)
    (subst (IsAlong g c.args.setting.now.order.now c.args.frozen.now _ c.args.place) (sym c.index-found-at.is)
    (along.each c.loop-at.at scenario progress c.loop-at-test.true))

-- the later of the greatest time so far and that of this scenario's run is the greatest of one scenario more
pub loop-at-preserved : goal.loop-at-preserved
loop-at-preserved c =
    let g = c.args.setting.now.problem.now in
    let order = c.args.setting.now.order.now in
    let frozen = c.args.frozen.now in
    let scenarios = c.args.scenarios.now in
    -- the scenario at this place has a run
    let its_run = a_run g order frozen c.index-scenarios-at.result c.requires.setting.topological in
    subst (IsLatest g order frozen c.args.item (c.loop-at.at + 1) scenarios)
    (sym (c.later-latest.ensures ∙ ap (later c.loop-at.latest) (c.in_ok-time.ensures its_run.0 its_run.1)))
    (latest_more g order c.requires.setting.topological frozen c.args.item scenarios c.loop-at.at c.loop-at.latest
    c.index-scenarios-at.result its_run.0 c.loop-at-test.true
    (sym c.index-scenarios-at.is) its_run.1 c.loop-at.invariant)

-- the examples show all runs, so the greatest time in them is the greatest in all scenarios; as the item has no frozen time
-- yet, it is the time that it would have if it were not frozen
pub returns : goal.returns
returns c =
    latest_is c.args.setting.now.problem.now c.args.setting.now.order.now c.requires.setting.topological
    c.args.frozen.now c.args.item c.args.scenarios.now c.requires.scenarios c.requires.item
    c.requires.unset
    c.loop-at.at c.loop-at.latest (omega (arith, c.loop-at-test.false, c.loop-at.auto.at-end)) c.loop-at.invariant
