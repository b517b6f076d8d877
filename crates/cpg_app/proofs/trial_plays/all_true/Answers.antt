-- Proof of `all_true`, which returns the end of the play in which every value is true and the first process has two
-- faults.
use Rattle.std.proofs.Common.{sym, subst}
use Rattle.cpg_base.specs.Scenario.{IsScenario}
use Rattle.cpg_app.proofs.Values.{true_lawful}
use Rattle.cpg_app.proofs.trial_plays.all_true.Goals as goal

-- all values true and two faults are a scenario of the graph
pub ending_of-requires-clause-scenario : goal.ending_of-requires-clause-scenario
ending_of-requires-clause-scenario c =
    let graph = c.args.admitted.now.graph in
    subst (IsScenario graph) (sym (rw c.problem.ensures.problem at c.in_ok-scenario.ensures))
    (true_lawful graph c.requires.processes c.requires.faults)
