-- Proof of `Bounds::write_values`, which writes the value of each condition to `least`: true if the low of its variable
-- is above 0.
use Rattle.std.proofs.Common.{ap₂, arith, get_or, false}
use Rattle.std.specs.Prelude.{nat_lt}
use Rattle.std.proofs.lemmas.List.FromFn.{fill_by_all}
use Rattle.cpg_base.specs.Graph.{value_variable}
use Rattle.cpg_base.specs.Scenario.{Scenario}
use Rattle.cpg_cube.proofs.bounds.Bounds.write_values.Goals as goal

-- every value was written in the loop, and the faults have stayed, so the scenario has all values
pub returns : goal.returns
returns c =
    let invariant = c.loop-condition.invariant in
    ap₂ (λ v f. let s : Scenario = record { values = v; faults = f } in s)
    (fill_by_all (λ d. nat_lt 0 (get_or c.args.self.now.low (value_variable d) 0)) c.loop-condition.least.values
    c.args.conditions false invariant.long (λ d below. invariant.written d (omega arith)))
    invariant.faults
