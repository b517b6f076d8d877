-- Proof of `raise`, which turns the ways to add up to at most `faults` into those to add up to at most one more.
use Rattle.std.proofs.Common.{arith}
use Rattle.cpg_reach.proofs.Raising.{raised_first, sum_fits, raised_next, raised_all}
use Rattle.cpg_reach.proofs.ways.raise.Goals as goal

-- for no counts there is one way, whatever the faults, so the first entry stays
pub loop-counts-init : goal.loop-counts-init
loop-counts-init c = raised_first c.args.faults c.args.table.now c.requires.ways

-- the sum of two neighbours is a number of ways for one fault more, which `sum_fits` bounds
pub overflow_add-table : goal.overflow_add-table
overflow_add-table c = let fits = sum_fits c.args.faults c.loop-counts.table c.loop-counts.counts c.requires.few
    (omega arith) (omega arith) c.loop-counts.invariant in
    omega arith

-- the ways for one fault more are those of one count less added to those for the faults so far
pub loop-counts-preserved : goal.loop-counts-preserved
loop-counts-preserved c = raised_next c.args.faults c.loop-counts.table c.loop-counts.counts (omega arith)
    (omega arith) c.loop-counts.invariant

-- at the end of the loop all entries are the ways for one fault more
pub returns : goal.returns
returns c = raised_all c.args.faults c.loop-counts.table c.loop-counts.counts (omega arith) c.loop-counts.invariant
