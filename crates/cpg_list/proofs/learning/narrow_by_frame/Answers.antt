-- Proof of `narrow_by_frame`: narrows a cube by the literals that the frame of an item carries, if the item is sent.
use Rattle.std.proofs.Common.{◌∙◌, sym, ap, subst}
use Rattle.cpg_run.specs.Carried.{row_at}
use Rattle.cpg_run.specs.Found.{columns_of_rows}
use Rattle.cpg_list.specs.Narrowing.{met, carried_in_columns, IsNarrowed}
use Rattle.cpg_list.proofs.CodeCubes.{met_narrowed}
use Rattle.cpg_list.proofs.CodeTold.{told_highs}
use Rattle.cpg_list.proofs.learning.narrow_by_frame.Goals as goal

-- the cube is met with the literals of the column that matches, which are those that the frame carries; none of their highs is
-- past the greatest number of its variable, so it is narrowed by them
pub returns : goal.returns
returns c =
    let faults = c.args.frames.now.problem.now.faults in
    let scenario = c.args.frames.now.scenario.now in
    let row = row_at (columns_of_rows c.args.frames.now.rows.now) c.args.item in
    subst (IsNarrowed faults (carried_in_columns row scenario) c.args.cube.now) (sym (c.in_ok-narrow_by_told.ensures
    ∙ ap (λ cs. met c.args.cube.now (carried_in_columns cs scenario)) c.row_of-row.ensures))
    (met_narrowed faults (carried_in_columns row scenario) c.args.cube.now
    (told_highs row scenario faults c.requires.within))
