-- Proof of `decides`: whether a process of the node has a condition.
use Rattle.std.proofs.Common.{◌∙◌, ◌==◌, sym, ap, arith, eq-eqb}
use Rattle.cpg_base.specs.Graph.{condition_count, node_of, process_of}
use Rattle.cpg_base.proofs.Items.{process_of_below}
use Rattle.cpg_rules.proofs.Senders.{any_there, any_nowhere}
use Rattle.cpg_rules.proofs.slots.decides.Goals as goal

-- the process of a condition is one of the graph
pub node_of-requires : goal.node_of-requires
node_of-requires c =
    let within = c.loop-condition-test.true in
    let count = c.conditions-condition-end.ensures.count in
    omega (
      arith,
      process_of_below c.args.problem.now c.loop-condition.condition (omega arith),
      c.process_of.ensures.process,
    )

-- the process of this condition is on the node
pub returns-then-node_of-node : goal.returns-then-node_of-node
returns-then-node_of-node c =
    let within = c.loop-condition-test.true in
    let count = c.conditions-condition-end.ensures.count in
    sym (any_there (λ d. node_of c.args.problem.now (process_of c.args.problem.now d) == c.args.node)
    (condition_count c.args.problem.now) c.loop-condition.condition (omega arith)
    (eq-eqb (node_of c.args.problem.now (process_of c.args.problem.now c.loop-condition.condition)) c.args.node
    (sym (ap (node_of c.args.problem.now) c.process_of.ensures.process) ∙ sym c.node_of.ensures.node
    ∙ c.if-node_of-node.true)))

-- all conditions have been visited, and none has its process on the node
pub returns : goal.returns
returns c =
    let done = c.loop-condition-test.false in
    let count = c.conditions-condition-end.ensures.count in
    sym (any_nowhere (λ d. node_of c.args.problem.now (process_of c.args.problem.now d) == c.args.node)
    (condition_count c.args.problem.now) (λ d l. c.loop-condition.invariant d (omega arith)))
