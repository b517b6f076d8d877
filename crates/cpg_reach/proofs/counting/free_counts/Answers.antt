-- Proof of `free_counts`, which returns how many processes may have faults.
use Rattle.std.proofs.Common.{sym, ap, length, arith, true, false}
use Rattle.cpg_order.specs.Counting.{is_count_free}
use Rattle.cpg_reach.proofs.Counted.{count_next, count-le}
use Rattle.cpg_reach.proofs.counting.free_counts.Goals as goal
use Rattle.cpg_reach.proofs.counting.free_counts.Goals.{then-is_count_free, else-is_count_free}

-- the count so far is no more than the number of processes, so one more has room
pub overflow_add-counts : goal.overflow_add-counts
overflow_add-counts c =
    let at_most = count-le (is_count_free c.args.admitted.now.graph c.args.reached.now c.args.scenario.now.values)
    c.loop-process.process in
    let invariant = c.loop-process.invariant in
    omega arith

-- this process is counted if it may have faults
pub loop-process-preserved : goal.loop-process-preserved
loop-process-preserved c = elim c.if-is_count_free.branch [
  | then-is_count_free w ↦ let one_more = count_next (is_count_free c.args.admitted.now.graph c.args.reached.now
      c.args.scenario.now.values) c.loop-process.process true (sym w.if-is_count_free.ensures) in
      let invariant = c.loop-process.invariant in let counts_are = w.counts-is in omega arith
  | else-is_count_free w ↦ let one_more = count_next (is_count_free c.args.admitted.now.graph c.args.reached.now
      c.args.scenario.now.values) c.loop-process.process false (sym w.if-is_count_free.ensures) in
      let invariant = c.loop-process.invariant in let counts_are = w.counts-is in omega arith
]

-- no more processes are counted than there are, and a graph has at most 128
pub returns-clause-few : goal.returns-clause-few
returns-clause-few c =
    let at_most = count-le (is_count_free c.args.admitted.now.graph c.args.reached.now c.args.scenario.now.values)
    c.loop-process.process in
    let invariant = c.loop-process.invariant in
    let few = c.processes.ensures.within.few_processes in
    omega (arith, ap length c.processes.ensures.processes)
