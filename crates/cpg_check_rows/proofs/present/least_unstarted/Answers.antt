-- Proof of `least_unstarted`: the least scenario in which a process is active and none of these columns matches.
use Rattle.std.proofs.Common.{[], true, refl}
use Rattle.cpg_base.specs.Activity.{active}
use Rattle.cpg_violation.proofs.Tests.{with_true}
use Rattle.cpg_check_rows.proofs.PresentLaws.{absent_from}
use Rattle.cpg_check_rows.proofs.present.least_unstarted.Goals as goal

-- the whole cube matches every scenario, so those in which the process is active and no column matches are just what
-- `least_without` was asked for
pub returns : goal.returns
returns c =
    let graph = c.args.admitted.now.graph in
    let process = c.args.process in
    absent_from graph c.args.admitted.now.order c.args.columns.now (λ s. active graph s.values process) process []
    (λ s i. with_true (active graph s.values process) true refl) c.in_ok-found.found
    (rw c.whole-whole.ensures at c.in_ok-found.ensures)
