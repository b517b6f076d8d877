-- Loops of `write_names`, which writes the names of the processes along an order, each after a blank.
use Rattle.std.proofs.Common.{◌≡◌, ◌++◌, codes, drop, flat_map, string_bytes}
use Rattle.cpg_label.specs.Labels.{process_name}
use Rattle.cpg_show.proofs.table.write_names.Given as goal

-- what is written and the names of the processes left are together what stood before and the names of the whole order
abbrev pub invariant-loop-process : goal.invariant-loop-process
invariant-loop-process l = string_bytes l.fn.out ++ flat_map (λ p. codes " " ++ process_name l.labels p) l.order
    ≡ string_bytes l.out ++ flat_map (λ p. codes " " ++ process_name l.labels p)
    (drop l.process-index l.order)
