-- Loops of `add_times`: adds the times of a row.
use Rattle.std.proofs.Common.{◌≡◌, ◌++◌, map, drop}
use Rattle.cpg_node.proofs.plan.add_times.Given as goal

-- the times so far and those of the columns left are together the times before and those of all columns
abbrev pub invariant-loop-entry : goal.invariant-loop-entry
invariant-loop-entry l =
    l.times.items ++ map (λ c. c.time) (drop l.entry-index l.columns) ≡ l.fn.times.items ++ map (λ c. c.time) l.columns
