-- Loops of `active_processes`: returns the processes that are active in a scenario, the lowest first.
use Rattle.std.proofs.Common.{◌≡◌, filter}
use Rattle.cpg_base.specs.Numbers.{numbers_below}
use Rattle.cpg_base.specs.Activity.{active}
use Rattle.cpg_tracks.proofs.track.active_processes.Given as goal

-- the list has the active ones among the processes so far
abbrev pub invariant-loop-process : goal.invariant-loop-process
invariant-loop-process l = l.processes.items ≡ filter (active l.problem l.scenario.values) (numbers_below l.process)
