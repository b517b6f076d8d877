-- Proof of `Bounds::write_faults`, which writes the low of each process's variable to `least`, as its fault count.
use Rattle.std.proofs.Common.{ap₂, arith, get_or}
use Rattle.std.proofs.lemmas.List.FromFn.{fill_by_all}
use Rattle.cpg_base.specs.Scenario.{Scenario}
use Rattle.cpg_cube.proofs.bounds.Bounds.write_faults.Goals as goal

-- the loop has written all processes, so the faults are the lows of all of them
pub returns : goal.returns
returns c =
    let invariant = c.loop-process.invariant in
    ap₂ (λ v f. let s : Scenario = record { values = v; faults = f } in s) invariant.values
    (fill_by_all (λ p. get_or c.args.self.now.low p 0) c.loop-process.least.faults c.args.processes 0 invariant.long
    (λ p below. invariant.written p (omega arith)))
