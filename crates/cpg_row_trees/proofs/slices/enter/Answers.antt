-- Proof of `enter`, which adds to the literals of a path what a fork says of a side.
use Rattle.std.proofs.Common.{ap, ◌∙◌, subst, List, Option, Some}
use Rattle.std.specs.Prelude.{IfSome}
use Rattle.cpg_cube.specs.declared.literal.Literal.{Literal}
use Rattle.cpg_row_trees.specs.Slices.{IsLastOn, left_by}
use Rattle.cpg_row_trees.proofs.SliceLaws.{entered_last, entered_more}
use Rattle.cpg_row_trees.proofs.slices.enter.Goals as goal

-- the last literal is on the variable of the fork, and is narrowed
pub returns-in-Some : goal.returns-in-Some
returns-in-Some c = entered_last c.args.path.now.items c.put_last.new.path.items c.args.literal c.in-Some.last
    (subst (λ (ls : List Literal). IsLastOn ls c.args.literal.variable c.in-Some.last) c.as_slice.ensures.value
    (subst (λ (o : Option Literal). IfSome o (IsLastOn c.as_slice.result.now c.args.literal.variable)) c.in-Some.is
    c.last_on.ensures))
    (c.put_last.ensures ∙ ap (λ (m : Literal). left_by (Some m) c.args.path.now.items) c.met_by.ensures)

-- no literal is on that variable, so one is added
pub returns-in_ok-push-in-None : goal.returns-in_ok-push-in-None
returns-in_ok-push-in-None c = rw c.in_ok-push-in-None.ensures.items (entered_more c.args.path.now.items c.args.literal)
