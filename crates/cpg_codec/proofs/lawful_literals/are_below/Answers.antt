-- Proof of `are_below`, which returns whether the last variable is below `end`, and so, as variables rise, all are;
-- true without literals.
use Rattle.std.proofs.Common.{◌-◌, ◌<◌, ◌≡◌, All, Some, length, nat_lt, ltb-true, rules}
use Rattle.std.specs.Prelude.{slice_get}
use Rattle.std.proofs.lemmas.Bool.{OnTrue_from}
use Rattle.cpg_cube.specs.declared.literal.Literal.{Literal}
use Rattle.cpg_cube.proofs.Above.{all_under}
use Rattle.cpg_codec.proofs.lawful_literals.are_below.Goals as goal

-- if the last variable is below the end, so are all, as they rise
pub returns-in-Some : goal.returns-in-Some
returns-in-Some c = OnTrue_from (nat_lt c.in-Some.last.now.variable c.args.end)
    (All (λ (l : Literal). l.variable < c.args.end) c.args.literals.now)
    (λ t. let there : slice_get c.args.literals.now (length c.args.literals.now - 1) ≡ Some c.in-Some.last.now =
    search rules in
    all_under c.args.literals.now c.args.end c.in-Some.last.now c.requires there
    (ltb-true c.in-Some.last.now.variable c.args.end t))
