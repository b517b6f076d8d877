-- Loops of `least_of_lower`: the least scenario in which a column of an item clashes with some column of an item with a
-- lower number, as `pairs` judges.
use Rattle.std.specs.List.{list_any}
use Rattle.cpg_base.specs.Numbers.{numbers_below}
use Rattle.cpg_base.specs.First.{IsFirst}
use Rattle.cpg_check_time.proofs.pairs.least_of_lower.Given as goal

-- after each other item, `found` is the least scenario in which the column clashes with one of the items so far, and
-- `None` if there is none
abbrev pub invariant-loop-other : goal.invariant-loop-other
invariant-loop-other g l = IsFirst l.admitted.graph l.admitted.order (λ s. list_any
    (λ y. g.P.ColumnPairs.clash l.admitted.graph l.tables.nodes l.item l.column y s) (numbers_below l.other)) l.found
