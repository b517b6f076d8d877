-- Loops of `whole_ranges`: the ranges of all variables before anything is heard: each may have any number that the
-- faults allow.
use Rattle.std.proofs.Common.{◌≡◌, map}
use Rattle.cpg_base.specs.Numbers.{numbers_below}
use Rattle.cpg_node.specs.Dispatcher.{whole_range}
use Rattle.cpg_node.proofs.heard.whole_ranges.Given as goal

-- `heard` has the whole range of each variable so far
abbrev pub invariant-loop-variable : goal.invariant-loop-variable
invariant-loop-variable l = l.heard.items ≡ map (whole_range l.faults) (numbers_below l.variable)
