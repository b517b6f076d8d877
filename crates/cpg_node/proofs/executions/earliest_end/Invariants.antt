-- Loops of `earliest_end`: the first possible end on the node after the last turn.
use Rattle.std.proofs.Common.{◌≡◌, Some, filter, drop}
use Rattle.std.specs.List.{flat_map}
use Rattle.cpg_node.specs.Dispatcher.{least_of, is_after, possible_ends, zip_with}
use Rattle.cpg_node.specs.State.{earlier}
use Rattle.cpg_node.proofs.executions.earliest_end.Given as goal

-- the earlier of `earliest` and the least possible end (after the last turn) of the places left is that of all places
abbrev pub invariant-loop-place : goal.invariant-loop-place
invariant-loop-place l = earlier l.earliest (least_of (filter (is_after (Some l.last))
    (flat_map (λ ends. ends) (zip_with possible_ends (drop l.place l.own) (drop l.place l.running))))) ≡ least_of
    (filter (is_after (Some l.last)) (flat_map (λ ends. ends) (zip_with possible_ends l.own l.running)))
