-- Proof of `narrow_finish`: returns the greatest finish of a graph in which no item is too wide by its views, or the
-- fault `Late` if it is late.
use Rattle.std.proofs.Common.{arith}
use Rattle.cpg_core.proofs.Figures.{accepted}
use Rattle.cpg_core.proofs.worst.narrow_finish.Goals as goal

-- the excess of the order that is taken is above 0, so something is late under the first order
pub shown_late_narrow-requires-clause-late : goal.shown_late_narrow-requires-clause-late
shown_late_narrow-requires-clause-late c = (c.in_ok-taken.ensures.late c.if-taken-gt0.true).0

-- the excess of the order that is taken is above 0, so no other order helps
pub shown_late_narrow-requires-clause-helpless : goal.shown_late_narrow-requires-clause-helpless
shown_late_narrow-requires-clause-helpless c = (c.in_ok-taken.ensures.late c.if-taken-gt0.true).1

-- the excess is 0, so nothing is late under the order that is taken, and the graph is accepted with its finish
pub returns-clause-accepted : goal.returns-clause-accepted
returns-clause-accepted c =
    accepted c.args.admitted.now.graph c.args.admitted.now.order c.in_ok-taken.taken
    (λ _. c.requires.narrow) c.in_ok-taken.ensures (omega (arith, c.if-taken-gt0.false))
