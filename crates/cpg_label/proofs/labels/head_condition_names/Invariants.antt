-- Loops of `head_condition_names`: the names of those processes of a head that have conditions.
use Rattle.std.proofs.Common.{◌≡◌, ◌++◌, map, filter, drop}
use Rattle.cpg_label.proofs.labels.head_condition_names.Given as goal

-- the names so far and those of the conditions among the processes still to come are the names of all conditions
abbrev pub invariant-loop-process : goal.invariant-loop-process
invariant-loop-process l =
    map (λ p. p.name) (filter (λ p. p.condition) l.processes) ≡ map (λ n. n.now) l.names.items ++ map (λ p. p.name)
    (filter (λ p. p.condition) (drop l.process-index l.processes))
