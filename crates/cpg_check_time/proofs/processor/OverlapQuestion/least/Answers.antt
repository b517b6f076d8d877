-- Proof of `OverlapQuestion::least`: the least scenario in which the executions that two columns start overlap.
use Rattle.cpg_check_time.proofs.ProcessorLaws.{overlap_after, overlap_before}
use Rattle.cpg_check_time.proofs.processor.OverlapQuestion.least.Goals as goal

-- the other execution starts first, so the two overlap if it ends after this one's start
pub returns-then-beside-column-clause-first : goal.returns-then-beside-column-clause-first
returns-then-beside-column-clause-first c = λ order.
    let overlap = c.args.self.now in
    overlap_after c.args.problem.now c.requires.fits.limits overlap.process c.requires.fits.process overlap.column.now
    overlap.other c.args.beside.now c.if-beside-column.true order
    c.in_ok-found.found (c.in_ok-found.ensures.first order)

-- this execution starts first, so the two overlap if it ends after the other's start
pub returns-clause-first : goal.returns-clause-first
returns-clause-first c = λ order.
    let overlap = c.args.self.now in
    overlap_before c.args.problem.now c.requires.fits.limits overlap.process c.requires.fits.process overlap.column.now
    overlap.other c.args.beside.now c.if-beside-column.false order
    c.in_ok-found-2.found (c.in_ok-found-2.ensures.first order)
