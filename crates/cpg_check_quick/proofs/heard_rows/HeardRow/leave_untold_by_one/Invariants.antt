-- Loops of `HeardRow::leave_untold_by_one`: writes to `left`, in place of what is there, those of the wanted literals
-- that the frame of one column isn't found to tell.
use Rattle.std.proofs.Common.{◌≡◌, ◌⊎◌, Some, Contains, take}
use Rattle.cpg_cube.specs.declared.literal.Literal.{Literal}
use Rattle.cpg_check_quick.specs.HeardRows.{IsToldIn}
use Rattle.cpg_check_quick.proofs.heard_rows.HeardRow.leave_untold_by_one.Given as goal

-- `among`: each literal that is left is wanted. `told`: each wanted literal so far is left, or the frame carries the
-- value that it is about, or one of the column's literals implies it.
abbrev pub invariant-loop-literal : goal.invariant-loop-literal
invariant-loop-literal l = record {
  among : (m : Literal) → Contains l.left.items m → Contains l.wanted m;
  told : (m : Literal) → Contains (take l.literal-index l.wanted) m →
      Contains l.left.items m ⊎ ((l.self.value ≡ Some m.variable) ⊎ IsToldIn l.own m);
}
