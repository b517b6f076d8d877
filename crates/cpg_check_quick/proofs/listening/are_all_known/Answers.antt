-- Proof of `are_all_known`: whether all literals of all these columns are on variables that `known` marks.
use Rattle.std.proofs.Common.{◌≡◌, All, get_or, true, false}
use Rattle.std.proofs.lemmas.Bool.{OnTrue_at}
use Rattle.cpg_cube.specs.declared.literal.Literal.{Literal}
use Rattle.cpg_cube.specs.declared.column.Column.{Column}
use Rattle.cpg_violation.proofs.SureLaws.{each_all, each_more}
use Rattle.cpg_check_quick.proofs.listening.are_all_known.Goals as goal

-- all literals of the next column are on known variables, too
pub loop-column-preserved : goal.loop-column-preserved
loop-column-preserved c =
    each_more (λ (d : Column). All (λ (m : Literal). get_or c.args.known.now m.variable false ≡ true) d.cube)
    c.args.columns.now c.loop-column.column-index c.column-item.result
    c.loop-column-test.true c.column-item.is c.loop-column.invariant
    (OnTrue_at {P = All (λ (m : Literal). get_or c.args.known.now m.variable false ≡ true) c.column-item.result.cube}
    c.if-not-is_cube_known.false c.is_cube_known.ensures)

-- the loop has gone over all columns, so what its invariant says of those so far holds of each
pub returns : goal.returns
returns c = each_all (λ (d : Column). All (λ (m : Literal). get_or c.args.known.now m.variable false ≡ true) d.cube)
    c.args.columns.now c.loop-column.column-index c.loop-column-test.false
    c.loop-column.invariant
