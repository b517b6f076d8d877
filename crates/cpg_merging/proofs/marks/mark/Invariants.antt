-- Loops of `mark`, which does what `mark_each` does, block by block.
use Rattle.std.proofs.Common.{ℕ, ◌⊎◌, Contains, length}
use Rattle.cpg_cube.specs.declared.literal.Literal.{Literal}
use Rattle.cpg_merging.specs.Totals.{HasNoPartner, IsMarked}
use Rattle.cpg_merging.proofs.marks.mark.Given as goal

-- `kept`: what was marked stays marked. `marked`: each literal is among those that are left, or its variable is
-- marked, or no total is that of the column with the literal changed
abbrev pub invariant-loop-block : goal.invariant-loop-block
invariant-loop-block l = record {
  kept : (v : ℕ) → IsMarked l.fn.marks v → IsMarked l.marks v;
  marked : (m : Literal) → Contains l.literals m →
      Contains l.left m ⊎ (¬ IsMarked l.marks m.variable → HasNoPartner l.sums.sorted.now l.total m);
}

-- each turn takes a block of literals off those that are left
abbrev pub decreases-loop-block : goal.decreases-loop-block
decreases-loop-block l = length l.left
