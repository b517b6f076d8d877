-- Proof of `are_counts`: whether each of some literals is a lawful one on a fault count.
use Rattle.std.proofs.Common.{◌≡◌, Bool, true, false, All, refl, sym, subst, arith}
use Rattle.std.specs.Bool.{OnTrue}
use Rattle.std.proofs.lemmas.Bool.{and_parts}
use Rattle.std.proofs.lemmas.List.{take_more, take_all}
use Rattle.std.proofs.lemmas.List.Elements.{All-push}
use Rattle.cpg_table.specs.Lawful.{IsCountLiteral}
use Rattle.cpg_table.proofs.space.are_counts.Goals as goal

-- what follows from the answer true, as a clause on the answer
on_true : {P : Type 0} (b : Bool) → (b ≡ true → P) → OnTrue b P
on_true true h = h refl
on_true false h = tt

-- if all tests up to this one are true, so is the one of this literal, and each of those before it
pub loop-literal-preserved : goal.loop-literal-preserved
loop-literal-preserved c e =
    let parts = and_parts c.loop-literal.all_counts c.is_count-all_counts.result e in
    subst (All (IsCountLiteral c.args.space))
    (sym (take_more c.args.literals.now c.loop-literal.literal-index _ (omega (arith, c.loop-literal-test.true))))
    (All-push (IsCountLiteral c.args.space) _ _ (c.loop-literal.invariant parts.0) (c.is_count-all_counts.ensures.0 parts.1))

-- the literals so far are all, so if the answer is true each is a lawful one on a count
pub returns : goal.returns
returns c = on_true c.loop-literal.all_counts (λ e. subst (All (IsCountLiteral c.args.space))
    (take_all c.loop-literal.literal-index c.args.literals.now (omega (arith, c.loop-literal-test.false)))
    (c.loop-literal.invariant e))
