-- Loops of `unfrozen_time`: the greatest time over all scenarios that an item would have if it were not frozen, in time
-- units, or `None` if it is never active.
use Rattle.cpg_all_runs.proofs.Latests.{IsLatest}
use Rattle.cpg_all_runs.proofs.latest.unfrozen_time.Given as goal

-- `latest` is the greatest time of the item in the first `at` scenarios, or None if it is active in none of them
abbrev pub invariant-loop-at : goal.invariant-loop-at
invariant-loop-at l = IsLatest l.setting.problem.now l.setting.order.now l.frozen l.item l.at l.scenarios l.latest
