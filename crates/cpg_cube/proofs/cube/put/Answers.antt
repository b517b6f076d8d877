-- Proof of `put`, which does what `narrow` does, without a search if the variable is above all others, as is usual
-- along a path.
use Rattle.std.proofs.Common.{rules, ◌<◌, All, ◌∙◌, sym}
use Rattle.cpg_cube.specs.Cube.{Literal}
use Rattle.cpg_cube.proofs.Above.{narrowed_above}
use Rattle.cpg_cube.proofs.Undone.{undo_last, on_last}
use Rattle.cpg_cube.proofs.cube.put.Goals as goal

-- all literals are on lower variables, so the literal is the last one
pub returns-then-is_above-clause-narrowed : goal.returns-then-is_above-clause-narrowed
returns-then-is_above-clause-narrowed c =
    let under : All (λ (l : Literal). l.variable < c.args.literal.variable) c.args.literals.now.items =
    rw c.as_slice.ensures at c.if-is_above.ensures in
    c.in_ok-push.ensures.ok ∙ sym (narrowed_above c.args.literal c.args.literals.now.items under)

-- taking the last literal off gives the literals from before
pub returns-then-is_above-clause-undo : goal.returns-then-is_above-clause-undo
returns-then-is_above-clause-undo c =
    undo_last c.args.literal c.args.literals.now.items _ _ (search rules) c.in_ok-push.ensures.ok

-- the last place has the literal, and there was none on its variable
pub returns-then-is_above-clause-on : goal.returns-then-is_above-clause-on
returns-then-is_above-clause-on c =
    on_last c.args.literal c.args.literals.now.items _ _ (search rules) c.in_ok-push.ensures.ok
