-- Proof of `are_below`: whether the variables of these literals, which rise, are all below one: the last is, or there
-- is none.
use Rattle.std.proofs.Common.{◌-◌, ◌<◌, ◌≡◌, All, Some, length, nat_lt, ltb-true, rules}
use Rattle.std.specs.Prelude.{slice_get}
use Rattle.std.proofs.lemmas.Bool.{OnTrue_from}
use Rattle.cpg_cube.specs.declared.literal.Literal.{Literal}
use Rattle.cpg_cube.proofs.Above.{all_under}
use Rattle.cpg_check_quick.proofs.listening.are_below.Goals as goal

-- the last literal has the highest variable, so if that is below, all are
pub returns-in-Some : goal.returns-in-Some
returns-in-Some c = OnTrue_from (nat_lt c.in-Some.last.now.variable c.args.variable)
    (All (λ (l : Literal). l.variable < c.args.variable) c.args.literals.now)
    (λ t. let there : slice_get c.args.literals.now (length c.args.literals.now - 1) ≡ Some c.in-Some.last.now =
    search rules in
    all_under c.args.literals.now c.args.variable c.in-Some.last.now c.requires there
    (ltb-true c.in-Some.last.now.variable c.args.variable t))
