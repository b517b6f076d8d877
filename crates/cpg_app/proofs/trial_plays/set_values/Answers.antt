-- Proof of `set_values`, which sets the values of all `count` conditions to true.
use Rattle.std.proofs.Common.{ap, ◌∙◌, arith}
use Rattle.cpg_base.specs.Scenario.{Scenario}
use Rattle.cpg_app.proofs.Values.{next_true}
use Rattle.cpg_app.proofs.trial_plays.set_values.Goals as goal

-- the next value is set to true, and the faults stay
pub loop-condition-preserved : goal.loop-condition-preserved
loop-condition-preserved c = record {
  values = next_true c.args.count c.loop-condition.condition c.loop-condition.scenario.values
      c.set_value.new.self.values (omega (arith, c.loop-condition-test.true)) c.loop-condition.invariant.values
      (ap (λ (s : Scenario). s.values) c.set_value.ensures);
  faults = ap (λ (s : Scenario). s.faults) c.set_value.ensures ∙ c.loop-condition.invariant.faults;
}
