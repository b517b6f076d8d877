-- Proof of `is_found_in`: whether all that is computed over these scenarios is `want`.
use Rattle.std.proofs.Common.{Contains}
use Rattle.std.proofs.lemmas.List.Elements.{All-weaker, All-contains_itself}
use Rattle.cpg_base.specs.Scenario.{IsScenario}
use Rattle.cpg_tests.proofs.list_tests.is_found_in.Goals as goal

-- each of the listed scenarios is a scenario of the graph
pub first_alike-requires : goal.first_alike-requires
first_alike-requires c = All-weaker (Contains c.args.scenarios.now) (IsScenario c.args.admitted.now.graph)
    c.requires.scenarios.lawful c.args.scenarios.now (All-contains_itself c.args.scenarios.now)
