-- Loops of `numbers_of`, which returns the numbers of the names of an order.
use Rattle.std.proofs.Common.{◌≡◌, drop}
use Rattle.cpg_reader.specs.Reading.{each}
use Rattle.cpg_reader.specs.Names.{ordered}
use Rattle.cpg_reader.proofs.Each.{after}
use Rattle.cpg_reader.proofs.building.numbers_of.Given as goal

-- reading the whole order gives what reading the names that are left gives, after the numbers found so far
abbrev pub invariant-loop-name : goal.invariant-loop-name
invariant-loop-name l =
    after l.numbers.items (each (ordered l.fn.processes) l.name-index (drop l.name-index l.fn.order))
    ≡ each (ordered l.fn.processes) 0 l.fn.order
