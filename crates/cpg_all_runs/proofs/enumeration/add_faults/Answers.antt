-- Proof of `add_faults`: adds the scenario with each fault count of a process that the faults left by the other
-- processes allow.
use Rattle.std.proofs.Common.{◌∙◌, ap}
use Rattle.cpg_all_runs.specs.Listing.{with_fault}
use Rattle.cpg_all_runs.proofs.Listed.{appended_push}
use Rattle.cpg_all_runs.proofs.enumeration.add_faults.Goals as goal

-- the scenario with one more count is added
pub loop-faults-preserved : goal.loop-faults-preserved
loop-faults-preserved c =
    appended_push (with_fault c.args.process c.args.scenario.now) c.args.scenarios.now.items
    c.loop-faults.scenarios.items c.push.new.self.items _ c.loop-faults.faults
    c.loop-faults.invariant (c.set_fault.ensures
    ∙ ap (λ s. with_fault c.args.process s c.loop-faults.faults) c.in_ok-other.ensures) c.in_ok-push.ensures.items
