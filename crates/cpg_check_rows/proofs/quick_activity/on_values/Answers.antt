-- Proof of `on_values`: those of these literals that come after the last one on a fault count, or all of them if none
-- is on a count.
use Rattle.std.proofs.Common.{◌-◌, length}
use Rattle.cpg_check_rows.proofs.LawfulRows.{matches_from}
use Rattle.cpg_check_rows.proofs.quick_activity.on_values.Goals as goal

-- where all literals hold, the last ones do
pub returns-then-literals-from-lt-FIRST_VALUE : goal.returns-then-literals-from-lt-FIRST_VALUE
returns-then-literals-from-lt-FIRST_VALUE c =
    λ s it_matches. matches_from c.args.literals.now (length c.args.literals.now - c.loop-later.later) s it_matches
