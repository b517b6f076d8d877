-- Proof of `mark_each`, which marks the variable of each of these literals at which a column with this total may
-- follow another one.
use Rattle.std.proofs.Common.{arith}
use Rattle.cpg_cube.specs.declared.literal.Literal.{Literal}
use Rattle.cpg_merging.specs.Totals.{HasNoPartner, IsMarked}
use Rattle.cpg_merging.proofs.MergingTotals.{all_more, all_of}
use Rattle.cpg_merging.proofs.marks.mark_each.Goals as goal

-- the variable of this literal is marked if the column may follow another there, and the marks from before stay
pub loop-literal-preserved : goal.loop-literal-preserved
loop-literal-preserved c =
    let invariant = c.loop-literal.invariant in
    record {
      kept = λ v on. c.mark_at.ensures.kept v (invariant.kept v on);
      marked = all_more (λ (m : Literal). ¬ IsMarked c.mark_at.new.marks m.variable →
          HasNoPartner c.args.sums.sorted.now c.args.total m) c.args.literals.now c.loop-literal.literal-index _
          (omega arith)
          (λ m member off. invariant.marked m member (λ on. off (c.mark_at.ensures.kept m.variable on)))
          c.mark_at.ensures.marked;
    }

-- all literals are gone over, so what holds of those so far holds of all
pub returns-clause-marked : goal.returns-clause-marked
returns-clause-marked c = all_of (λ (m : Literal). ¬ IsMarked c.loop-literal.marks m.variable →
    HasNoPartner c.args.sums.sorted.now c.args.total m) c.args.literals.now c.loop-literal.literal-index
    (omega arith) c.loop-literal.invariant.marked
