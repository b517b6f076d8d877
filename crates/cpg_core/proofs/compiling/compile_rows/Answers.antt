-- Proof of `compile_rows`: returns the rows of a graph under the compile's order, or the fault that shows why there are
-- none.
use Rattle.std.proofs.Common.{◌≡◌, subst, arith}
use Rattle.cpg_order.specs.Urgency.{first_order}
use Rattle.cpg_core.specs.Accepted.{order_taken}
use Rattle.cpg_core.specs.Compiled.{IsMeasured}
use Rattle.cpg_core.proofs.compiling.compile_rows.Goals as goal

-- the excess of the order that is taken is above 0, so something is late under the first order
pub shown_late-requires-clause-late : goal.shown_late-requires-clause-late
shown_late-requires-clause-late c = (c.in_ok-taken.ensures.late c.if-taken-gt0.true).0

-- the excess of the order that is taken is above 0, so no other order helps
pub shown_late-requires-clause-helpless : goal.shown_late-requires-clause-helpless
shown_late-requires-clause-helpless c = (c.in_ok-taken.ensures.late c.if-taken-gt0.true).1

-- the greatest excess is 0, so nothing is late under the order that is taken
pub compile_taken-requires-clause-in_time : goal.compile_taken-requires-clause-in_time
compile_taken-requires-clause-in_time c =
    let g = c.args.admitted.now.graph in
    let urgency = c.args.admitted.now.order in
    let t = c.in_ok-taken.taken in
    let zero : t.figures.excess ≡ 0 = omega (arith, c.if-taken-gt0.false) in (
      t.figures.worst,
      subst (λ n. IsMeasured g urgency (order_taken (first_order g urgency) t.order) n t.figures.worst) zero
          c.in_ok-taken.ensures.measured,
    )
