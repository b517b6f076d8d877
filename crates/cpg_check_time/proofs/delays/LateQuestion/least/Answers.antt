-- Proof of `LateQuestion::least`: the least scenario in which a column matches together with a cube, and what it begins
-- is done only after a time.
use Rattle.std.proofs.Common.{◌&&◌, sym, subst}
use Rattle.cpg_base.specs.First.{IsFirst}
use Rattle.cpg_cube.specs.Cube.{matches}
use Rattle.cpg_check_time.specs.Delays.{is_late}
use Rattle.cpg_check_time.proofs.DelayLaws.{slot_first}
use Rattle.cpg_check_time.proofs.delays.LateQuestion.least.Goals as goal

-- the column begins an execution, so `least_late` answers the question
pub returns-in_ok-found-in-Execution-clause-first : goal.returns-in_ok-found-in-Execution-clause-first
returns-in_ok-found-in-Execution-clause-first c = λ order.
    let late = c.args.self.now in
    subst (λ d. IsFirst c.args.problem.now order (λ s. matches late.cube.now s && is_late c.args.problem.now d late.time
    c.args.beside.now s) c.in_ok-found-in-Execution.found) (sym c.in-Execution.is)
    (c.in_ok-found-in-Execution.ensures.first order)

-- a slot takes the same time in every scenario, and its end is after the time, so the column is late wherever it
-- matches together with the cube
pub returns-in_ok-found-in-Slot-clause-first : goal.returns-in_ok-found-in-Slot-clause-first
returns-in_ok-found-in-Slot-clause-first c = λ order.
    let late = c.args.self.now in
    subst (λ d. IsFirst c.args.problem.now order (λ s. matches late.cube.now s
    && is_late c.args.problem.now d late.time c.args.beside.now s) c.in_ok-found-in-Slot.found) (sym c.in-Slot.is)
    (slot_first c.args.problem.now order late.cube.now c.args.beside.now c.in-Slot.length late.time
    c.if-beside-length.false c.in_ok-found-in-Slot.found (c.in_ok-found-in-Slot.ensures.first order))
