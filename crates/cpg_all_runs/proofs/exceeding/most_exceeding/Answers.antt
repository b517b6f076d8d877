-- Proof of `most_exceeding`: the first process with the greatest excess of a run, and `None` exactly if no end is past
-- its due.
use Rattle.std.proofs.Common.{◌≢◌, ◌<◌, ℕ, IfSome, IfNone, arith, subst}
use Rattle.cpg_base.specs.Graph.{process_count}
use Rattle.cpg_run.specs.Finish.{excess_of}
use Rattle.cpg_all_runs.specs.Peaks.{IsFirstExceeding}
use Rattle.cpg_all_runs.proofs.Ends.{least_exceeding}
use Rattle.cpg_all_runs.proofs.exceeding.most_exceeding.Goals as goal

-- the excess isn't 0, so some process has it, and the one that was found is the first
pub returns : goal.returns
returns c =
    let g = c.args.problem.now in
    let t = c.args.times.now in
    let by = c.first_exceeding.result in
    let is = c.excess_in_run-excess.ensures in
    least_exceeding g t by (omega (arith, is, c.if-excess-eq0.false))
    (subst (λ n. IfSome by (IsFirstExceeding g t n)) is c.first_exceeding.ensures.found)
    (subst (λ n. IfNone by ((q : ℕ) → q < process_count g → excess_of g t q ≢ n)) is c.first_exceeding.ensures.none)
