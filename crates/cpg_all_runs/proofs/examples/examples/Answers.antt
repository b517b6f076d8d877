-- Proof of `examples`: the first scenario with each list of active numbers, given the result of `first_alike` for all
-- scenarios.
use Rattle.std.proofs.Common.{◌∙◌, List, ◌++◌, ◌∷◌, [], sym, ap, arith}
use Rattle.std.proofs.lemmas.List.{get_or_default}
use Rattle.cpg_base.specs.Scenario.{Scenario, zero_scenario}
use Rattle.cpg_all_runs.proofs.Showing.{examples_more, examples_kept, examples_all}
use Rattle.cpg_all_runs.proofs.examples.examples.Goals as goal
use Rattle.cpg_all_runs.proofs.examples.examples.Goals.{then-firsts-at+in_ok-copy+in_ok-push, else-firsts-at}

-- a scenario that is the first with its active numbers is added, and shows itself; any other has the runs of its first one,
-- which is among the examples already
pub loop-at-preserved : goal.loop-at-preserved
loop-at-preserved c g all alike =
    let scenarios = c.args.scenarios.now in
    let at = c.loop-at.at in
    let within = c.loop-at-test.true in
    let shown = c.loop-at.invariant g all alike in
    elim c.if-firsts-at.branch [
      -- the scenario is the first with its active numbers, and is added
      | then-firsts-at+in_ok-copy+in_ok-push added ↦
          let scenario = added.index-scenarios-at.result in
          rw added.list-is
          (examples_more g at scenarios c.loop-at.list.items shown within added.push.new.self.items scenario
          (added.index-scenarios-at.is ∙ get_or_default scenarios at scenario (zero_scenario g) within)
          (all.lawful scenario (at, within, sym added.index-scenarios-at.is))
          (◌∙◌ {A = List Scenario} added.in_ok-push.ensures.items
          (ap (λ (r : Scenario). c.loop-at.list.items ++ r ∷ []) added.in_ok-copy.ensures)))
      -- an earlier one has them, and shows it
      | else-firsts-at kept ↦ rw kept.list-is
          (examples_kept g at scenarios c.loop-at.list.items shown within c.args.firsts.now alike
          kept.if-firsts-at.false)
    ]

-- after the loop all scenarios are shown, so the list shows all runs
pub returns : goal.returns
returns c g all alike = examples_all g c.loop-at.at c.args.scenarios.now c.loop-at.list.items all
    (omega (arith, c.loop-at-test.false, c.loop-at.auto.at-end)) (c.loop-at.invariant g all alike)
