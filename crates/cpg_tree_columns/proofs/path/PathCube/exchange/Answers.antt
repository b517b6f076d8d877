-- Proof of `PathCube::exchange`, which undoes a step and narrows the cube by another literal on the same variable
-- instead.
use Rattle.std.proofs.Common.{◌∙◌, List, sym, ap, subst}
use Rattle.std.specs.Prelude.{slice_set}
use Rattle.cpg_cube.specs.declared.literal.Literal.{Literal}
use Rattle.cpg_cube.proofs.Exchanged.{put_exchanged, undo_exchanged}
use Rattle.cpg_tree_columns.specs.Path.{IsPath}
use Rattle.cpg_tree_columns.proofs.path.PathCube.exchange.Goals as goal

-- what is set at the place is what the literal leaves of what was there, so the old cube is narrowed by it
pub returns-clause-narrowed : goal.returns-clause-narrowed
returns-clause-narrowed c =
    let filled = ap (λ (ys : List Literal). slice_set ys c.args.step.place c.left-left.result) c.self.view_is in
    let path : IsPath c.args.self.now = subst IsPath c.self.view_is c.self.invariant.0 in
    filled ∙ sym (put_exchanged c.args.literal c.args.self.now path.rising
    c.args.step c.requires.within c.requires.on c.left-left.result c.left-left.ensures)

-- the step leads back to the same cube as before
pub returns-clause-undo : goal.returns-clause-undo
returns-clause-undo c =
    let filled = ap (λ (ys : List Literal). slice_set ys c.args.step.place c.left-left.result) c.self.view_is in
    let path : IsPath c.args.self.now = subst IsPath c.self.view_is c.self.invariant.0 in
    undo_exchanged c.args.literal c.args.self.now path.rising
    c.args.step c.requires.within c.requires.on c.left-left.result c.left-left.ensures _ filled
