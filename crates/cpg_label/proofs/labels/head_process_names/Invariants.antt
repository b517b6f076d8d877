-- Loops of `head_process_names`: the names of the processes of a head.
use Rattle.std.proofs.Common.{◌≡◌, map, take}
use Rattle.cpg_label.proofs.labels.head_process_names.Given as goal

-- the list has the names of the processes so far
abbrev pub invariant-loop-process : goal.invariant-loop-process
invariant-loop-process l = map (λ n. n.now) l.names.items ≡ map (λ p. p.name) (take l.process-index l.processes)
