-- Proof of `heard`: when the node of a process has heard in a course each condition that decides the process, or 0 if
-- none does.
use Rattle.std.proofs.Common.{◌∙◌, ap₂, map, Contains, subst}
use Rattle.cpg_base.specs.Numbers.{greatest}
use Rattle.cpg_base.specs.Graph.{node_of}
use Rattle.cpg_base.proofs.Lists.{Contains-filter_parts}
use Rattle.cpg_order.specs.Deciding.{decides}
use Rattle.cpg_order.specs.Counting.{conditions_along}
use Rattle.cpg_order.proofs.Along.{from_along}
use Rattle.cpg_run.specs.Run.{heard_there}
use Rattle.cpg_run.proofs.Mosts.{most_deciding}
use Rattle.cpg_latest.proofs.waiting.heard.Goals as goal

-- each condition that was asked for is one of the graph
pub latest_heard-requires-clause-conditions : goal.latest_heard-requires-clause-conditions
latest_heard-requires-clause-conditions c d k =
    let admitted = c.requires.setting.admitted in
    let is = c.as_slice.ensures.value ∙ c.requires.asked.conditions admitted.0 admitted.1 in
    (from_along c.args.setting.now.problem.now admitted.0 d
    (Contains-filter_parts (decides c.args.setting.now.problem.now c.args.asked.now.scenario.now.values c.args.process)
    (conditions_along c.args.setting.now.problem.now admitted.0) d
    (subst (λ ds. Contains ds d) is k)).0).0

-- the conditions asked for are just those that decide the process, so the latest hearing of them is the greatest of all that
-- decide it
pub returns : goal.returns
returns c =
    let admitted = c.requires.setting.admitted in
    let graph = c.args.setting.now.problem.now in
    most_deciding (heard_there graph c.args.course.now.known (node_of graph c.args.process)) graph
    admitted.0 admitted.1.topological
    c.args.asked.now.scenario.now.values c.args.process c.latest_heard.result
    (c.latest_heard.ensures ∙ ap₂ (λ n ds. greatest (map (heard_there graph c.args.course.now.known n) ds))
    c.node_of-node.ensures.node (c.as_slice.ensures.value ∙ c.requires.asked.conditions admitted.0 admitted.1))
