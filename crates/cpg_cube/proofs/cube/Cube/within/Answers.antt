-- Proof of `Cube::within`: whether another cube matches each scenario within the problem's faults that this cube
-- matches.
use Rattle.std.proofs.Common.{◌∙◌, sym}
use Rattle.cpg_cube.proofs.Within.{within_from, to_within}
use Rattle.cpg_cube.proofs.cube.Cube.within.Goals as goal

-- the test is exact: it holds exactly if each scenario that this cube matches is matched by the other
pub returns-clause-all : goal.returns-clause-all
returns-clause-all c =
    let graph = c.args.problem.now in
    let ensured = c.is_within.ensures in
    let few = ensured.limits.few_processes in (
      (λ says_within. within_from graph few c.args.self.now c.args.other.now ensured.cubes.0 ensured.cubes.1
          (sym ensured.exact ∙ says_within)),
      (λ all_matched. ensured.exact
          ∙ to_within graph few c.args.self.now c.args.other.now ensured.cubes.0 ensured.cubes.1 all_matched),
    )
