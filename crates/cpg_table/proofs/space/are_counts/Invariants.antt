-- Loops of `are_counts`: whether each of some literals is a lawful one on a fault count.
use Rattle.std.proofs.Common.{◌≡◌, true, All, take}
use Rattle.cpg_table.specs.Lawful.{IsCountLiteral}
use Rattle.cpg_table.proofs.space.are_counts.Given as goal

-- while `all_counts` is true, each literal so far is a lawful one on a fault count
abbrev pub invariant-loop-literal : goal.invariant-loop-literal
invariant-loop-literal l = l.all_counts ≡ true → All (IsCountLiteral l.space) (take l.literal-index l.literals)
