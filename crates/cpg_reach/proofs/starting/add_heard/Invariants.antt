-- Loops of `add_heard`, which adds the values of the conditions that decide a process, and what the times depend on at
-- which the node hears them.
use Rattle.std.proofs.Common.{filter, get_or, []}
use Rattle.cpg_base.specs.Numbers.{numbers_below}
use Rattle.cpg_base.specs.Graph.{value_variable}
use Rattle.cpg_order.specs.Reach.{is_in}
use Rattle.cpg_reach.specs.Variables.{Adds}
use Rattle.cpg_reach.specs.Walked.{heard_by}
use Rattle.cpg_reach.proofs.starting.add_heard.Given as goal

-- the set has the old numbers and what hearing the conditions below `condition` that decide the process depends on
abbrev pub invariant-loop-condition : goal.invariant-loop-condition
invariant-loop-condition l = Adds l.fn.reach (heard_by l.problem l.reaches l.node
    (filter (λ c. is_in (get_or l.deciding l.process []) (value_variable c)) (numbers_below l.condition))) l.reach
