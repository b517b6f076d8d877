-- Proof of `latest_heard`: when a node has heard each of these conditions in a course, or 0 if there are none.
use Rattle.std.proofs.Common.{get_or}
use Rattle.std.proofs.lemmas.List.Elements.{Contains-get_or}
use Rattle.cpg_latest.proofs.waiting.latest_heard.Goals as goal

-- the condition is one of the list, all of which are conditions of the graph
pub heard_there-requires-clause-condition : goal.heard_there-requires-clause-condition
heard_there-requires-clause-condition c =
    c.requires.conditions (get_or c.args.conditions.now c.loop-condition.condition-index 0)
    (Contains-get_or c.args.conditions.now c.loop-condition.condition-index 0 c.loop-condition-test.true)
