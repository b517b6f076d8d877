-- Proof of `condition_total`, which returns how many of the first `processes` processes have a condition.
use Rattle.std.proofs.Common.{◌∙◌, sym, arith}
use Rattle.cpg_base.specs.Conditions.{has_conditional_output}
use Rattle.cpg_hyper.proofs.Counted.{counted, passed}
use Rattle.cpg_hyper.proofs.edges.condition_total.Goals as goal
use Rattle.cpg_hyper.proofs.edges.condition_total.Goals.{then-is_conditional, else-is_conditional}

-- a process with a conditional output is counted, and any other is passed over
pub loop-process-preserved : goal.loop-process-preserved
loop-process-preserved c = elim c.if-is_conditional.branch [
  -- it has a conditional output, and 1 is added to the total
  | then-is_conditional w ↦ record {
    total = counted (has_conditional_output c.args.edges.now) c.loop-process.process c.loop-process.total
        c.if-is_conditional.total c.loop-process.invariant.total
        (sym c.is_conditional.ensures ∙ w.if-is_conditional.true) w.total-is;
    short = omega (arith, w.total-is, c.loop-process.invariant.short);
  }
  -- it has none, and the total stays
  | else-is_conditional w ↦ record {
    total = passed (has_conditional_output c.args.edges.now) c.loop-process.process c.loop-process.total
        c.if-is_conditional.total c.loop-process.invariant.total
        (sym c.is_conditional.ensures ∙ w.if-is_conditional.false) w.total-is;
    short = omega (arith, w.total-is, c.loop-process.invariant.short);
  }
]
