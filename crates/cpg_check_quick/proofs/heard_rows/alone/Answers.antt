-- Proof of `alone`: the column at the only one of these places; `None` if there isn't exactly one place, or no column
-- is there.
use Rattle.std.proofs.Common.{◌≡◌, refl}
use Rattle.cpg_cube.specs.declared.column.Column.{Column}
use Rattle.cpg_check_quick.proofs.OrderLaws.{told_at}
use Rattle.cpg_check_quick.proofs.HeardRowLaws.{only_place}
use Rattle.cpg_check_quick.proofs.heard_rows.alone.Goals as goal

-- there is one place, so the column there is that at each place
pub returns : goal.returns
returns c = only_place c.args.columns.now c.args.places.now c.in-Some.column.now c.if-places-ne1.false
    (told_at (λ (d : Column). d ≡ c.in-Some.column.now) c.args.columns.now _ c.in-Some.column.now
    c.in-Some.ensures.lookup.3.0 c.in-Some.ensures.lookup.1 refl)
