-- Proof of `possible_time`: the time of the first column that matches in some scenario; `None` exactly if none does.
use Rattle.cpg_check_time.proofs.FrozenLaws.{time_here, time_later}
use Rattle.std.proofs.Common.{◌≡◌, true, false, sym}
use Rattle.cpg_cube.specs.Fit.{is_met}
use Rattle.cpg_check_time.proofs.frozen.possible_time.Goals as goal

-- no earlier column matches in any scenario, and this one does, so its time is the first possible
pub returns-then-is_met : goal.returns-then-is_met
returns-then-is_met c =
    let met : is_met c.args.problem.now.faults c.column-item.result.cube ≡ true =
    rw (← c.faults.ensures.faults) (sym c.if-is_met.ensures.met) in
    time_here c.args.problem.now c.faults.ensures.within.few_processes c.args.columns.now c.requires
    c.loop-column.column-index c.column-item.result c.loop-column-test.true c.column-item.is
    c.loop-column.invariant met

-- the next column matches in no scenario, so none so far does
pub loop-column-preserved : goal.loop-column-preserved
loop-column-preserved c =
    let met : is_met c.args.problem.now.faults c.column-item.result.cube ≡ false =
    rw (← c.faults.ensures.faults) (sym c.if-is_met.ensures.met) in
    time_later c.args.problem.now c.faults.ensures.within.few_processes c.args.columns.now c.requires
    c.loop-column.column-index c.column-item.result c.loop-column-test.true c.column-item.is
    c.loop-column.invariant met
