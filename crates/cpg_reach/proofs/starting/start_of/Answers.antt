-- Proof of `start_of`, which returns what the start of a process depends on.
use Rattle.std.proofs.Common.{◌∙◌, ap, true, false, arith}
use Rattle.cpg_order.specs.Reach.{is_in}
use Rattle.cpg_reach.proofs.Adding.{set_at}
use Rattle.cpg_reach.proofs.Starts.{frozen_at, start_frozen, start_plain}
use Rattle.cpg_reach.proofs.starting.start_of.Goals as goal

-- the process is frozen, so its start depends on the values that decide it
pub returns-then-processes-process : goal.returns-then-processes-process
returns-then-processes-process c =
    start_frozen c.args.problem.now c.args.reaches.now c.args.known.now c.args.process c.copy.result
    (frozen_at c.args.problem.now c.args.process c.processes.result.now c.index-processes-process.result true
    c.processes.ensures.processes c.requires.process c.if-processes-process.true)
    (λ v. ap (λ xs. is_in xs v)
    (c.copy.ensures ∙ set_at c.args.deciding.now c.args.process c.index-deciding-process.result
    (omega (arith, c.requires.deciding.count, c.requires.process)) c.index-deciding-process.is)
    ∙ c.requires.deciding.each c.args.process c.requires.process v)

-- the process is not frozen, so its start depends on what its node waited for, on what it hears, and on its inputs
pub returns : goal.returns
returns c = start_plain c.args.problem.now c.args.reaches.now c.args.known.now c.args.process c.copy-reach.result
    c.add_heard.new.reach c.add_inputs.new.reach c.node_of-node.result
    (frozen_at c.args.problem.now c.args.process c.processes.result.now c.index-processes-process.result false
    c.processes.ensures.processes c.requires.process c.if-processes-process.false)
    c.node_of-node.ensures.node
    (c.copy-reach.ensures ∙ set_at c.args.known.now c.node_of-node.result c.index-known-node.result
    (omega (arith, c.requires.nodes, c.node_of-node.ensures.within)) c.index-known-node.is)
    c.add_heard.ensures c.add_inputs.ensures
