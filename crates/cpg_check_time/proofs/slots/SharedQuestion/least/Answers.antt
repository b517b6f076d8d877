-- Proof of `SharedQuestion::least`: the least scenario in which two columns match that have one time.
use Rattle.cpg_check_time.proofs.SlotLaws.{share_where}
use Rattle.cpg_check_time.proofs.slots.SharedQuestion.least.Goals as goal

-- the two columns have one time, so they share a slot where both match
pub returns-clause-first : goal.returns-clause-first
returns-clause-first c = λ order. share_where c.args.problem.now c.args.self.now.column.now c.args.beside.now
    c.if-beside-column.false order c.in_ok-found.found (c.in_ok-found.ensures.first order)
