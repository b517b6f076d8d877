-- Proof of `is_each_lawful`, which returns whether each literal is lawful, looking at one after another.
use Rattle.std.proofs.Common.{All, sym, subst, arith}
use Rattle.std.proofs.lemmas.List.{take_more, take_all}
use Rattle.std.proofs.lemmas.List.Elements.{All-push}
use Rattle.cpg_table.specs.Lawful.{IsLawfulLiteral}
use Rattle.cpg_codec.proofs.lawful_literals.is_each_lawful.Goals as goal

-- the literals before this one are lawful, and the test says that this one is
pub loop-literal-preserved : goal.loop-literal-preserved
loop-literal-preserved c =
    subst (All (IsLawfulLiteral c.args.space.now))
    (sym (take_more c.args.literals.now c.loop-literal.literal-index _ (omega (arith, c.loop-literal-test.true))))
    (All-push (IsLawfulLiteral c.args.space.now) _ _ c.loop-literal.invariant
    (c.is_lawful.ensures c.if-not-is_lawful.false))

-- at the end of the loop the literals so far are all literals
pub returns : goal.returns
returns c = subst (All (IsLawfulLiteral c.args.space.now)) (take_all c.loop-literal.literal-index c.args.literals.now
    (omega (arith, c.loop-literal-test.false))) c.loop-literal.invariant
