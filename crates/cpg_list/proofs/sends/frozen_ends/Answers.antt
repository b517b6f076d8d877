-- Proof of `frozen_ends`: for each scenario the cube of what is carried at the end of a frozen process.
use Rattle.std.proofs.Common.{◌∙◌, ◌∷◌, [], ◌++◌, length, length-append, ap, arith}
use Rattle.cpg_base.specs.Scenario.{Scenario}
use Rattle.cpg_run.specs.Carried.{decided, number_known}
use Rattle.cpg_list.proofs.CodeStarts.{push_cube}
use Rattle.cpg_list.proofs.sends.frozen_ends.Goals as goal

-- the cube of the next scenario is added
pub loop-at-preserved : goal.loop-at-preserved
loop-at-preserved c =
    let graph = c.args.admitted.now.graph in
    record {
      count = ap length c.in_ok-push.ensures.items ∙ length-append c.loop-at.cubes.items (c.in_ok-cube.cube ∷ [])
          ∙ omega (arith, c.loop-at.invariant.count);
      each = push_cube graph.faults c.args.scenarios.now
          (λ (s : Scenario). decided graph s c.args.process ++ number_known s c.args.process ∷ []) c.loop-at.at
          c.loop-at.cubes.items c.push.new.self.items
          c.index-scenarios-at.result c.in_ok-cube.cube c.loop-at-test.true c.loop-at.invariant.count
          c.loop-at.invariant.each c.in_ok-push.ensures.items c.index-scenarios-at.is c.in_ok-cube.ensures;
    }
