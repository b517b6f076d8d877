-- Proof of `first_alike`: for each scenario of a list, the place of the first one with the same active numbers.
use Rattle.std.proofs.Common.{◌≡◌, ◌∙◌, length, subst, ap, arith}
use Rattle.std.proofs.lemmas.List.{get_or_default}
use Rattle.cpg_base.specs.Graph.{Graph}
use Rattle.cpg_base.specs.Scenario.{zero_scenario}
use Rattle.cpg_all_runs.specs.Active.{active_numbers}
use Rattle.cpg_all_runs.specs.FirstAlike.{scenario_at, numbers_at, AreFirstPlaces}
use Rattle.cpg_all_runs.proofs.ActiveAlike.{same_runs}
use Rattle.cpg_all_runs.proofs.Placed.{places_more, firsts_more}
use Rattle.cpg_all_runs.proofs.placing.first_alike.Goals as goal

-- one scenario more: if its active numbers have a place it is that of the first scenario with them, and else they get its own
pub loop-at-preserved : goal.loop-at-preserved
loop-at-preserved c =
    let g = c.args.admitted.now.graph in
    let scenarios = c.args.scenarios.now in
    let at = c.loop-at.at in
    let scenario = c.index-scenarios-at.result in
    let numbers = c.in_ok-numbers.numbers in
    -- the active numbers of the scenario at this place
    let is : numbers.items ≡ numbers_at g scenarios at =
    c.in_ok-numbers.ensures ∙ ap (λ (h : Graph). active_numbers h scenario) c.problem-problem.ensures.problem
    ∙ ap (active_numbers g)
    (c.index-scenarios-at.is ∙ get_or_default scenarios at scenario (zero_scenario g) c.loop-at-test.true) in
    -- the map has the first places of one place more, and so has the list
    record {
      places = places_more (numbers_at g scenarios) at c.loop-at.places.entries c.kept_place.new.places.entries numbers
          c.in_ok-kept_place.field-0 c.loop-at.invariant.places is c.in_ok-kept_place.ensures;
      firsts = firsts_more (numbers_at g scenarios) at c.loop-at.places.entries c.kept_place.new.places.entries numbers
          c.in_ok-kept_place.field-0 c.loop-at.invariant.places is c.in_ok-kept_place.ensures
          c.loop-at.firsts.items c.push.new.self.items c.loop-at.invariant.firsts c.in_ok-push.ensures.items;
    }

-- after the loop each scenario has its first place, and by `same_runs` scenarios with the same active numbers have the same
-- runs
pub returns : goal.returns
returns c =
    let g = c.args.admitted.now.graph in
    let scenarios = c.args.scenarios.now in
    let firsts = c.loop-at.firsts.items in
    let end : c.loop-at.at ≡ length scenarios = omega (arith, c.loop-at-test.false, c.loop-at.auto.at-end) in
    let places : AreFirstPlaces (numbers_at g scenarios) (length scenarios) firsts =
    subst (λ n. AreFirstPlaces (numbers_at g scenarios) n firsts) end c.loop-at.invariant.firsts in
    record {
      places = places;
      runs = λ i l. same_runs g c.args.admitted.now.order c.problem-problem.ensures.admitted.urgency
          c.problem-problem.ensures.admitted.topological _ (scenario_at g scenarios i) (places.same i l);
    }
