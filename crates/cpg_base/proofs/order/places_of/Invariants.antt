-- Loops of `places_of`: returns for each process number the place at which the process stands.
use Rattle.cpg_base.proofs.Standing.{AreWritten}
use Rattle.cpg_base.proofs.order.places_of.Given as goal

-- the places of the first `i` processes of the order are written down
abbrev pub invariant-loop-i : goal.invariant-loop-i
invariant-loop-i l = AreWritten l.processes.items l.places.items l.i
