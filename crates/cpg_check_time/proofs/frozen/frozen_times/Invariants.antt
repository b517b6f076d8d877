-- Loops of `frozen_times`: for each item, by number, the time that it has to have; `None` if it isn't frozen, or no
-- column of it ever matches.
use Rattle.std.proofs.Common.{◌≡◌, map}
use Rattle.cpg_base.specs.Numbers.{numbers_below}
use Rattle.cpg_check_time.specs.Frozen.{frozen_time}
use Rattle.cpg_check_time.proofs.frozen.frozen_times.Given as goal

-- after each item, `times` has the frozen time of each item so far
abbrev pub invariant-loop-item : goal.invariant-loop-item
invariant-loop-item l = l.times.items ≡ map (frozen_time l.admitted.graph l.tables.nodes) (numbers_below l.item)
