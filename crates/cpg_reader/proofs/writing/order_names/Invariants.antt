-- Loops of `order_names`, which returns the names of the processes of an order.
use Rattle.std.proofs.Common.{◌≡◌, take, map, get_or, []}
use Rattle.toml.specs.Data.{string}
use Rattle.toml.specs.View.{view}
use Rattle.cpg_reader.proofs.writing.order_names.Given as goal

-- after each place, the list has the name of each process of the order so far
abbrev pub invariant-loop-process : goal.invariant-loop-process
invariant-loop-process l = map view l.names.items
    ≡ map (λ p. string (get_or (map (λ q. q.name) l.processes) p [])) (take l.process-index l.fn.order)
