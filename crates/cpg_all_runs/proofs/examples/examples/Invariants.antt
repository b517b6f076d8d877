-- Loops of `examples`: the first scenario with each list of active numbers, given the result of `first_alike` for all
-- scenarios.
use Rattle.cpg_base.specs.Graph.{Graph}
use Rattle.cpg_all_runs.specs.FirstAlike.{AreFirstAlike}
use Rattle.cpg_all_runs.specs.Listing.{AreScenarios}
use Rattle.cpg_all_runs.proofs.Showing.{AreFirstExamples}
use Rattle.cpg_all_runs.proofs.examples.examples.Given as goal

-- each of the first `at` scenarios has the runs of one of the examples so far, whatever graph has these scenarios
abbrev pub invariant-loop-at : goal.invariant-loop-at
invariant-loop-at l = (g : Graph) → AreScenarios g l.scenarios → AreFirstAlike g l.scenarios l.firsts →
    AreFirstExamples g l.at l.scenarios l.list.items
