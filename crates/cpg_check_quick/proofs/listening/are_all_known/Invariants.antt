-- Loops of `are_all_known`: whether all literals of all these columns are on variables that `known` marks.
use Rattle.std.proofs.Common.{◌≡◌, All, get_or, take, true, false}
use Rattle.cpg_cube.specs.declared.literal.Literal.{Literal}
use Rattle.cpg_cube.specs.declared.column.Column.{Column}
use Rattle.cpg_check_quick.proofs.listening.are_all_known.Given as goal

-- all literals of each column so far are on known variables
abbrev pub invariant-loop-column : goal.invariant-loop-column
invariant-loop-column l = All (λ (c : Column). All (λ (m : Literal). get_or l.known m.variable false ≡ true) c.cube)
    (take l.column-index l.columns)
