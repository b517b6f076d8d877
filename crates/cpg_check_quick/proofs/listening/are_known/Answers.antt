-- Proof of `are_known`: whether all these literals are on variables that `known` marks.
use Rattle.std.proofs.Common.{◌≡◌, get_or, true, false}
use Rattle.std.proofs.lemmas.Bool.{OnTrue_from, and_parts}
use Rattle.std.proofs.lemmas.List.Elements.{All-more}
use Rattle.cpg_cube.specs.declared.literal.Literal.{Literal}
use Rattle.cpg_violation.proofs.SureLaws.{each_all}
use Rattle.cpg_check_quick.proofs.listening.are_known.Goals as goal

-- if the flag is still set, all literals before are on known variables, and the next one is
pub loop-literal-preserved : goal.loop-literal-preserved
loop-literal-preserved c both =
    let parts = and_parts _ _ both in
    All-more (λ (m : Literal). get_or c.args.known.now m.variable false ≡ true) c.args.literals.now
    c.loop-literal.literal-index (record { variable = 0; low = 0; high = 0 }) c.loop-literal-test.true
    (c.loop-literal.invariant parts.0) parts.1

-- the loop has gone over all literals, so what its invariant says of those so far holds of each
pub returns : goal.returns
returns c = OnTrue_from _ _ (λ are. each_all (λ (m : Literal). get_or c.args.known.now m.variable false ≡ true)
    c.args.literals.now c.loop-literal.literal-index c.loop-literal-test.false
    (c.loop-literal.invariant are))
