-- Proof of `is_above`: whether `variable` is greater than those of all literals.
use Rattle.std.proofs.Common.{◌-◌, ◌<◌, ◌≡◌, All, Some, length, nat_lt, ltb-true, rules}
use Rattle.std.specs.Prelude.{slice_get}
use Rattle.std.proofs.lemmas.Bool.{OnTrue_from}
use Rattle.cpg_cube.specs.Cube.{Literal}
use Rattle.cpg_cube.proofs.Above.{all_under}
use Rattle.cpg_cube.proofs.cube.is_above.Goals as goal

-- the last literal has the highest variable, so if that is lower, all are
pub returns-in-Some : goal.returns-in-Some
returns-in-Some c = OnTrue_from (nat_lt c.in-Some.last.now.variable c.args.variable)
    (All (λ (l : Literal). l.variable < c.args.variable) c.args.literals.now)
    (λ last_lower. let there : slice_get c.args.literals.now
    (length c.args.literals.now - 1) ≡ Some c.in-Some.last.now =
    search rules in
    all_under c.args.literals.now c.args.variable c.in-Some.last.now c.requires there
    (ltb-true c.in-Some.last.now.variable c.args.variable last_lower))
