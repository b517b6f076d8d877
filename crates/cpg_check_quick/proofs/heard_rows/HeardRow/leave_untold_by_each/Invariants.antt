-- Loops of `HeardRow::leave_untold_by_each`: writes to `left`, in place of what is there, those of the wanted literals
-- that the frames of the columns at these places aren't all found to tell.
use Rattle.std.proofs.Common.{◌⊎◌, Contains, take}
use Rattle.cpg_cube.specs.declared.literal.Literal.{Literal}
use Rattle.cpg_check_quick.specs.HeardRows.{IsTold}
use Rattle.cpg_check_quick.proofs.heard_rows.HeardRow.leave_untold_by_each.Given as goal

-- `among`: each literal that is left is wanted. `told`: each wanted literal so far is left, or the frames tell it: they
-- carry the value that it is about, or the column at each of the places implies it.
abbrev pub invariant-loop-literal : goal.invariant-loop-literal
invariant-loop-literal l = record {
  among : (m : Literal) → Contains l.left.items m → Contains l.wanted m;
  told : (m : Literal) → Contains (take l.literal-index l.wanted) m →
      Contains l.left.items m ⊎ IsTold l.self.value l.self.columns.now l.places m;
}
