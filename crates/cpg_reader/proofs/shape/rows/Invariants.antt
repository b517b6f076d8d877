-- Loops of `rows`, which returns the elements that the tables of one of the lists say, in their order.
use Rattle.std.proofs.Common.{◌≡◌, drop}
use Rattle.toml.specs.View.{table_view}
use Rattle.cpg_reader.specs.Reading.{each}
use Rattle.cpg_reader.proofs.Each.{after}
use Rattle.cpg_reader.proofs.shape.rows.Given as goal

-- reading all tables as rows gives what reading those that are left gives, after the rows so far
abbrev pub invariant-loop-index : goal.invariant-loop-index
invariant-loop-index g l =
    after l.rows.items
    (each (λ i t. g.T.Element.reads (record { table = l.fn.table; index = i; members = table_view t.now })) l.index
    (drop l.index l.fn.elements))
    ≡ each (λ i t.
    g.T.Element.reads (record { table = l.fn.table; index = i; members = table_view t.now })) 0 l.fn.elements
