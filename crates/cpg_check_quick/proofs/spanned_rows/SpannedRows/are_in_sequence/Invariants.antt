use Rattle.cpg_check_quick.proofs.OrderLaws.{IsInSequenceTo}
use Rattle.cpg_check_quick.proofs.spanned_rows.SpannedRows.are_in_sequence.Given as goal

-- after each place, each item before it is over before each later one before it; and the item at `start`, unless that
-- is 0, is active in every scenario
abbrev pub invariant-loop-place : goal.invariant-loop-place
invariant-loop-place l = IsInSequenceTo l.self l.items l.place l.start
