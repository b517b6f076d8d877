-- Proof of `tail`: returns the length of the longest way from the start of a process to an end, in time units:
-- executions without faults, and a round of the bus for each message.
use Rattle.std.proofs.Common.{◌∙◌, ap, get_or}
use Rattle.cpg_base.specs.Graph.{process_count}
use Rattle.cpg_base.proofs.Lists.{get_or-map-below}
use Rattle.cpg_order.specs.Urgency.{tail}
use Rattle.cpg_order.proofs.tails.tail.Goals as goal

-- the list has the tail of each process at its place
pub returns : goal.returns
returns c = c.index.ensures ∙ ap (λ xs. get_or xs c.args.process c.index.result.now) c.in_ok-tails.ensures
    ∙ get_or-map-below (tail c.args.problem.now)
    (process_count c.args.problem.now) c.args.process c.index.result.now c.requires.process
