-- Loops of `is_process`: whether a text is the name of a process.
use Rattle.std.proofs.Common.{◌≡◌, bytes_eq, drop, map}
use Rattle.std.specs.List.{list_any}
use Rattle.cpg_scenario.specs.File.{process_names}
use Rattle.cpg_scenario.proofs.entries.is_process.Given as goal

-- no process so far has the name, so what is left to say is whether one of the others has
abbrev pub invariant-loop-process : goal.invariant-loop-process
invariant-loop-process l = list_any (bytes_eq l.text) (process_names l.problem)
    ≡ list_any (bytes_eq l.text) (map (λ p. p.name) (drop l.process-index l.process-items))
