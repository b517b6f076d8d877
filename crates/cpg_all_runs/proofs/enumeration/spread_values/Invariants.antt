-- Loops of `spread_values`: each of the scenarios as it is, and with the condition true.
use Rattle.std.proofs.Common.{◌≡◌, take}
use Rattle.std.specs.List.{flat_map}
use Rattle.cpg_all_runs.specs.Listing.{with_both}
use Rattle.cpg_all_runs.proofs.enumeration.spread_values.Given as goal

-- `more` has each of the scenarios so far with both values of the condition
abbrev pub invariant-loop-scenario : goal.invariant-loop-scenario
invariant-loop-scenario l = l.more.items ≡ flat_map (with_both l.condition) (take l.scenario-index l.scenarios)
