-- Proof of `decided_there`: when the node of a process has heard each condition that decides the process.
use Rattle.std.proofs.Common.{◌∙◌, ap₂, map, Contains, subst}
use Rattle.cpg_base.specs.Numbers.{greatest}
use Rattle.cpg_base.specs.Graph.{node_of}
use Rattle.cpg_base.proofs.Lists.{Contains-filter_parts}
use Rattle.cpg_order.specs.Deciding.{decides}
use Rattle.cpg_order.specs.Counting.{conditions_along}
use Rattle.cpg_order.proofs.Along.{from_along}
use Rattle.cpg_run.specs.Run.{heard_there}
use Rattle.cpg_run.proofs.Mosts.{most_deciding}
use Rattle.cpg_run.proofs.waiting.decided_there.Goals as goal

-- the conditions that decide a process are some of those along the urgency order, which are conditions of the graph
pub latest_heard-heard-requires-clause-conditions : goal.latest_heard-heard-requires-clause-conditions
latest_heard-heard-requires-clause-conditions c d among =
    let admitted = c.requires.admitted in
    let is = c.as_slice.ensures.value ∙ c.in_ok-conditions.ensures admitted.0 admitted.1 in
    (from_along c.args.problem.now admitted.0 d
    (Contains-filter_parts (decides c.args.problem.now c.args.scenario.now.values c.args.process)
    (conditions_along c.args.problem.now admitted.0) d
    (subst (λ ds. Contains ds d) is among)).0).0

-- the conditions found are just those that decide the process, so the latest hearing of them is the greatest of all that
-- decide it
pub returns : goal.returns
returns c =
    let admitted = c.requires.admitted in
    most_deciding (heard_there c.args.problem.now c.args.known.now (node_of c.args.problem.now c.args.process))
    c.args.problem.now admitted.0 admitted.1.topological c.args.scenario.now.values c.args.process
    c.latest_heard-heard.result
    (c.latest_heard-heard.ensures
    ∙ ap₂ (λ n ds. greatest (map (heard_there c.args.problem.now c.args.known.now n) ds)) c.node_of.ensures.node
    (c.as_slice.ensures.value ∙ c.in_ok-conditions.ensures admitted.0 admitted.1))
