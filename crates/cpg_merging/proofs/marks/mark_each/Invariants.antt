-- Loops of `mark_each`, which marks the variable of each of these literals at which a column with this total may
-- follow another one.
use Rattle.std.proofs.Common.{ℕ, Contains, take}
use Rattle.cpg_cube.specs.declared.literal.Literal.{Literal}
use Rattle.cpg_merging.specs.Totals.{HasNoPartner, IsMarked}
use Rattle.cpg_merging.proofs.marks.mark_each.Given as goal

-- `kept`: what was marked stays marked. `marked`: for each literal so far, its variable is marked, or no total is that
-- of the column with the literal changed
abbrev pub invariant-loop-literal : goal.invariant-loop-literal
invariant-loop-literal l = record {
  kept : (v : ℕ) → IsMarked l.fn.marks v → IsMarked l.marks v;
  marked : (m : Literal) → Contains (take l.literal-index l.literals) m → ¬ IsMarked l.marks m.variable →
      HasNoPartner l.sums.sorted.now l.total m;
}
