-- Loops of `first_difference`: the first place at which the columns that are heard aren't the sender's, each later by
-- the delay: if one list begins with the other, the length of the shorter one.
use Rattle.std.proofs.Common.{◌≡◌, take, map}
use Rattle.cpg_table.specs.Valid.{later_by}
use Rattle.cpg_check_rows.proofs.hears.first_difference.Given as goal

-- the columns that are heard at the places so far are those that are sent, each later by the delay
abbrev pub invariant-loop-place : goal.invariant-loop-place
invariant-loop-place l = take l.place l.heard ≡ take l.place (map (later_by l.delay) l.sent)
