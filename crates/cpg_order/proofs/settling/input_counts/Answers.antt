-- Proof of `input_counts`: returns how many inputs each process has, by number.
use Rattle.std.proofs.Common.{ap, length, arith}
use Rattle.cpg_base.specs.Graph.{inputs}
use Rattle.cpg_base.proofs.Lists.{map_below_push}
use Rattle.cpg_order.proofs.Readiness.{inputs-le}
use Rattle.cpg_order.proofs.settling.input_counts.Goals as goal

-- a process has no more inputs than the graph has edges, which are few enough for a `u32`
pub overflow_cast-inputs : goal.overflow_cast-inputs
overflow_cast-inputs c =
    let same = ap length (c.inputs.ensures.of_graph c.args.problem.now c.requires) in
    omega (arith, inputs-le c.args.problem.now c.loop-process.process, c.processes-count.ensures.within.few_edges)

-- the inputs of one more process are counted
pub loop-process-preserved : goal.loop-process-preserved
loop-process-preserved c = map_below_push (λ p. length (inputs c.args.problem.now p)) c.loop-process.counts.items
    c.push.new.self.items (length c.inputs.result.now) c.loop-process.process
    c.loop-process.invariant (ap length (c.inputs.ensures.of_graph c.args.problem.now c.requires))
    c.in_ok-push.ensures.items
