-- Proof of `generated_have_few_scenarios`: the graph of every number has at most 7,564 scenarios, and so no item has
-- more views.
use Rattle.cpg_gen_laws.proofs.Narrow.{few_scenarios, few_views}
use Rattle.cpg_gen_laws.proofs.generated_have_few_scenarios.Goals as goal

-- four outcomes with 1,891 ways to place two faults in 60 processes; by proofs/Narrow.antt
pub returns-clause-scenarios : goal.returns-clause-scenarios
returns-clause-scenarios c = few_scenarios

-- each view is a scenario; by proofs/Narrow.antt
pub returns-clause-views : goal.returns-clause-views
returns-clause-views c = few_views
