-- Loops of `is_any_followed`, which says whether some column follows the one before it at the variable; false if there
-- are fewer than two.
use Rattle.std.proofs.Common.{◌≡◌, drop}
use Rattle.cpg_merging.specs.Merging.{is_any_followed, is_any_followed_from}
use Rattle.cpg_merging.proofs.joins.is_any_followed.Given as goal

-- no column so far follows the one before it, so what is left to say is whether one of the rest follows `last`
abbrev pub invariant-loop-next : goal.invariant-loop-next
invariant-loop-next l = is_any_followed l.faults l.variable l.columns
    ≡ is_any_followed_from l.faults l.variable l.last (drop l.next-index l.rest)
