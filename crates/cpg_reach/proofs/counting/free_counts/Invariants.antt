-- Loops of `free_counts`, which returns how many processes may have faults.
use Rattle.std.proofs.Common.{◌≡◌, count_by}
use Rattle.cpg_base.specs.Numbers.{numbers_below}
use Rattle.cpg_order.specs.Counting.{is_count_free}
use Rattle.cpg_reach.proofs.counting.free_counts.Given as goal

-- `counts` is how many processes below `process` have a free count
abbrev pub invariant-loop-process : goal.invariant-loop-process
invariant-loop-process l =
    l.counts ≡ count_by (is_count_free l.admitted.graph l.reached l.scenario.values) (numbers_below l.process)
