-- Proof of `are_parts`, which returns whether `is_part` holds of each literal; `true` guarantees it.
use Rattle.std.proofs.Common.{◌<◌, All, sym, subst, arith}
use Rattle.std.proofs.lemmas.Bool.{and_parts, OnTrue_from}
use Rattle.std.proofs.lemmas.List.{take_more, take_all}
use Rattle.std.proofs.lemmas.List.Elements.{All-push}
use Rattle.cpg_cube.specs.declared.literal.Literal.{Literal}
use Rattle.cpg_table.specs.Lawful.{IsCountLiteral}
use Rattle.cpg_table.specs.declared.space.VariableSpace.{VariableSpace}
use Rattle.cpg_codec.proofs.lawful_literals.are_parts.Goals as goal

-- a literal is lawful, if it is on the fault count of a process
abbrev IsPartOf : VariableSpace → Literal → Type 0
IsPartOf s l = l.variable < s.processes → IsCountLiteral s l

-- if all tests up to this one are true, so is the one of this literal, and each of those before it
pub loop-literal-preserved : goal.loop-literal-preserved
loop-literal-preserved c e =
    let parts = and_parts c.loop-literal.all_parts c.is_part-all_parts.result e in
    subst (All (IsPartOf c.args.space.now))
    (sym (take_more c.args.literals.now c.loop-literal.literal-index _ (omega (arith, c.loop-literal-test.true))))
    (All-push (IsPartOf c.args.space.now) _ _ (c.loop-literal.invariant parts.0) (c.is_part-all_parts.ensures parts.1))

-- at the end of the loop the literals so far are all, so if the answer is true each of them is as it should be
pub returns : goal.returns
returns c = OnTrue_from c.loop-literal.all_parts (All (IsPartOf c.args.space.now) c.args.literals.now)
    (λ e. subst (All (IsPartOf c.args.space.now)) (take_all c.loop-literal.literal-index c.args.literals.now
    (omega (arith, c.loop-literal-test.false))) (c.loop-literal.invariant e))
