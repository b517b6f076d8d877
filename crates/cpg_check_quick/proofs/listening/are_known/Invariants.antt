-- Loops of `are_known`: whether all these literals are on variables that `known` marks.
use Rattle.std.proofs.Common.{◌≡◌, All, get_or, take, true, false}
use Rattle.cpg_cube.specs.declared.literal.Literal.{Literal}
use Rattle.cpg_check_quick.proofs.listening.are_known.Given as goal

-- while `are_known` is true, the variable of each literal so far is marked as known
abbrev pub invariant-loop-literal : goal.invariant-loop-literal
invariant-loop-literal l =
    l.are_known ≡ true → All (λ (m : Literal). get_or l.known m.variable false ≡ true) (take l.literal-index l.literals)
