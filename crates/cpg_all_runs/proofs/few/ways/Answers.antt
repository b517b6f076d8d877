-- Proof of `ways`: the number of ways in which `counts` counts of faults add up to at most `faults` faults.
use Rattle.std.proofs.Common.{◌+◌, ◌*◌, ◌/◌, ◌∙◌, ap, arith}
use Rattle.cpg_all_runs.proofs.FewWays.{product_fits, next_ways}
use Rattle.cpg_all_runs.proofs.few.ways.Goals as goal

-- with at most 128 processes and 8 faults the product fits in 64 bits
pub overflow_mul-ways : goal.overflow_mul-ways
overflow_mul-ways c =
    let fits = product_fits c.args.counts c.loop-placed.placed c.requires.counts
    (omega (arith, c.loop-placed-test.true, c.from-placed-end.ensures, c.requires.faults)) in
    omega (arith, fits, ap (λ w. w * (c.args.counts + c.loop-placed.placed + 1)) c.loop-placed.invariant)

-- (counts + placed + 1) times the ways to place at most `placed` faults, divided by placed + 1, are the ways to place one more
pub loop-placed-preserved : goal.loop-placed-preserved
loop-placed-preserved c =
    ap (λ w. w * (c.args.counts + c.loop-placed.placed + 1) / (c.loop-placed.placed + 1)) c.loop-placed.invariant
    ∙ next_ways c.args.counts c.loop-placed.placed
