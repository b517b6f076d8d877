-- Loops of `are_parts`, which returns whether `is_part` holds of each literal; `true` guarantees it.
use Rattle.std.proofs.Common.{◌≡◌, ◌<◌, true, All, take}
use Rattle.cpg_table.specs.Lawful.{IsCountLiteral}
use Rattle.cpg_codec.proofs.lawful_literals.are_parts.Given as goal

-- if `all_parts` is still true, each literal so far on a process's variable is a lawful one on a count of faults
abbrev pub invariant-loop-literal : goal.invariant-loop-literal
invariant-loop-literal l = l.all_parts ≡ true →
    All (λ x. x.variable < l.fn.space.processes → IsCountLiteral l.fn.space x) (take l.literal-index l.fn.literals)
