-- Proof of `asked`, which returns the condition that an edge asks for, with the value that it wants; `None` if the edge
-- is live wherever its source is active.
use Rattle.std.proofs.Common.{◌∙◌, sym}
use Rattle.cpg_base.proofs.ConditionProcesses.{condition_of_below}
use Rattle.cpg_expand.proofs.sending.asked.Goals as goal

-- the condition of a process is one of the graph
pub returns-in-Some-condition_of-clause-condition : goal.returns-in-Some-condition_of-clause-condition
returns-in-Some-condition_of-clause-condition c = condition_of_below c.args.problem.now c.source-source.result
    c.in-Some-condition_of.condition (sym c.condition_of.ensures ∙ c.in-Some-condition_of.is)
