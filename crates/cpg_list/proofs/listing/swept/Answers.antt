-- Proof of `swept`: the tables, the frozen times, and the greatest finish and excess of all runs, given all scenarios
-- and the plan.
use Rattle.std.proofs.Common.{ℕ, List, All, Contains, sym, subst}
use Rattle.std.proofs.lemmas.List.Elements.{All-weaker, All-contains_itself}
use Rattle.cpg_base.specs.Scenario.{Scenario, IsScenario}
use Rattle.cpg_list.proofs.listing.swept.Goals as goal

-- each scenario of the list is one of the graph
pub first_alike-requires : goal.first_alike-requires
first_alike-requires c =
    All-weaker (Contains c.args.scenarios.now) (IsScenario c.args.admitted.now.graph) c.requires.scenarios.lawful
    c.args.scenarios.now (All-contains_itself c.args.scenarios.now)

-- each scenario of the list is one of the graph
pub runs-requires-clause-scenarios : goal.runs-requires-clause-scenarios
runs-requires-clause-scenarios c =
    All-weaker (Contains c.args.scenarios.now) (IsScenario c.args.admitted.now.graph) c.requires.scenarios.lawful
    c.args.scenarios.now (All-contains_itself c.args.scenarios.now)
