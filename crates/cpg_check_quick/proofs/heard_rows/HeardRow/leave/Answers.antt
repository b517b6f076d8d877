-- Proof of `HeardRow::leave`: writes to `left`, in place of what is there, those of the wanted literals that the frames
-- of the columns at these places aren't all found to tell.
use Rattle.std.proofs.Common.{◌≡◌, ◌⊎◌, List, Some, inl, inr, subst}
use Rattle.cpg_cube.specs.declared.literal.Literal.{Literal}
use Rattle.cpg_check_quick.specs.HeardRows.{IsToldIn}
use Rattle.cpg_check_quick.proofs.HeardRowLaws.{told_alone}
use Rattle.cpg_check_quick.proofs.heard_rows.HeardRow.leave.Goals as goal

-- the column is at the only place, so what it tells is told at each place
pub returns-in_ok-leave_untold_by_one-in-Some-clause-told : goal.returns-in_ok-leave_untold_by_one-in-Some-clause-told
returns-in_ok-leave_untold_by_one-in-Some-clause-told c m h =
    elim (c.in_ok-leave_untold_by_one-in-Some.ensures.told m h) [
      | inl kept ↦ inl kept
      | inr told ↦ inr (told_alone c.args.self.now.columns.now c.args.places.now c.in-Some.column.now m
          c.in-Some.ensures (subst (λ (own : List Literal). (c.args.self.now.value ≡ Some m.variable) ⊎ IsToldIn own m)
          c.literals.ensures.literals told))
    ]
