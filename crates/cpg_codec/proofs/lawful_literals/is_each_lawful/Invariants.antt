-- Loops of `is_each_lawful`, which returns whether each literal is lawful, looking at one after another.
use Rattle.std.proofs.Common.{All, take}
use Rattle.cpg_table.specs.Lawful.{IsLawfulLiteral}
use Rattle.cpg_codec.proofs.lawful_literals.is_each_lawful.Given as goal

-- each literal so far is lawful
abbrev pub invariant-loop-literal : goal.invariant-loop-literal
invariant-loop-literal l = All (IsLawfulLiteral l.fn.space) (take l.literal-index l.fn.literals)
