-- Proof of `inputs_of`: returns the inputs of a process, by edge number.
use Rattle.cpg_rules.proofs.Inputs.{one_more, none_more}
use Rattle.cpg_rules.proofs.steps.inputs_of.Goals as goal
use Rattle.cpg_rules.proofs.steps.inputs_of.Goals.{then-ends-process+in_ok-push, else-ends-process}

-- an edge that leads to the process is one more input, and any other is passed over
pub loop-edge-preserved : goal.loop-edge-preserved
loop-edge-preserved c = elim c.if-ends-process.branch [
  -- the edge leads to the process: it is added
  | then-ends-process+in_ok-push w ↦ one_more c.args.problem.now c.edges-ends-items.result.now
      c.edges-ends-items.ensures.edges c.args.process c.loop-edge.edge c.loop-edge.found.items
      c.loop-edge.invariant
      c.if-ends-process.found.items w.if-ends-process.true (rw w.found-is w.in_ok-push.ensures.items)
  -- it leads to another: it is passed over
  | else-ends-process w ↦ rw w.found-is (none_more c.args.problem.now c.edges-ends-items.result.now
      c.edges-ends-items.ensures.edges c.args.process c.loop-edge.edge c.loop-edge.found.items
      c.loop-edge.invariant w.if-ends-process.false)
]
