-- Proof of `mark`, which does what `mark_each` does, block by block.
use Rattle.std.proofs.Common.{rules, ◌≡◌, ◌++◌, inl, inr}
use Rattle.cpg_cube.specs.declared.literal.Literal.{Literal}
use Rattle.cpg_merging.specs.Totals.{HasNoPartner, IsMarked}
use Rattle.cpg_merging.proofs.MergingBlocks.{all_marked, marked_on}
use Rattle.cpg_merging.proofs.marks.mark.Goals as goal

-- this block's literals are marked where they may be followed; marks stay, and the literals behind the block are still
-- left
pub loop-block-preserved : goal.loop-block-preserved
loop-block-preserved c =
    let invariant = c.loop-block.invariant in
    let parted : c.loop-block.left.now ≡ c.in-Some.block.now ++ c.in-Some.rest.now = search rules in
    record {
      kept = λ v on. c.mark_block.ensures.kept v (invariant.kept v on);
      marked = marked_on (λ (m : Literal). ¬ IsMarked c.loop-block.marks m.variable →
          HasNoPartner c.args.sums.sorted.now c.args.total m)
          (λ (m : Literal). ¬ IsMarked c.mark_block.new.marks m.variable → HasNoPartner c.args.sums.sorted.now
          c.args.total m) c.args.literals.now c.loop-block.left.now c.in-Some.block.now
          c.in-Some.rest.now parted
          (λ m holds off. holds (λ on. off (c.mark_block.ensures.kept m.variable on))) c.mark_block.ensures.marked
          invariant.marked;
    }

-- each literal is in a block that was marked or among those at the end, which are marked too
pub returns-clause-marked : goal.returns-clause-marked
returns-clause-marked c = all_marked (λ (m : Literal). ¬ IsMarked c.mark_each.new.marks m.variable →
    HasNoPartner c.args.sums.sorted.now c.args.total m) c.args.literals.now c.loop-block.left.now
    (λ m member. elim (c.loop-block.invariant.marked m member) [
      | inl there ↦ inl there
      | inr done ↦ inr (λ off. done (λ on. off (c.mark_each.ensures.kept m.variable on)))
    ]) c.mark_each.ensures.marked
