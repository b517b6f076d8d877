-- Loops of `condition_names`: the name of the process of each condition.
use Rattle.std.proofs.Common.{◌≡◌, map, take}
use Rattle.cpg_base.specs.Graph.{process_at, disjunctions}
use Rattle.cpg_label.proofs.labels.condition_names.Given as goal

-- the list has the names of the processes of the conditions so far
abbrev pub invariant-loop-condition : goal.invariant-loop-condition
invariant-loop-condition l = map (λ n. n.now) l.names.items
    ≡ map (λ p. (process_at l.problem p).name) (take l.condition (disjunctions l.problem))
