-- Proof of `SlotsColumnPairs::least_with`: the least scenario in which a column of `item` matches together with one of
-- `other` at the same time, if the node of `item` sends `other`.
use Rattle.std.proofs.Common.{◌≡◌, ◌∙◌, sym, subst, true}
use Rattle.std.specs.List.{list_any}
use Rattle.cpg_base.specs.Graph.{home, is_sent}
use Rattle.cpg_base.specs.First.{IsFirst}
use Rattle.cpg_table.specs.Table.{columns_of}
use Rattle.cpg_check_time.specs.Clashes.{shares}
use Rattle.cpg_violation.specs.SievedRows.{IsSievedRow}
use Rattle.cpg_check_time.proofs.Judging.{columns_are}
use Rattle.cpg_check_time.proofs.SlotLaws.{shares_both, all_later, all_earlier, other_item}
use Rattle.cpg_check_time.proofs.slots.SlotsColumnPairs.least_with.Goals as goal

-- all columns of the other item are later, so none shares the slot
pub returns-then-column-row : goal.returns-then-column-row
returns-then-column-row c = λ s _.
    -- the sieved row of the other item
    let row : IsSievedRow (columns_of c.args.tables.now.nodes c.args.other) c.index-rows-other.result =
    subst (IsSievedRow (columns_of c.args.tables.now.nodes c.args.other)) (sym c.index-rows-other.is)
    (c.requires.fits.each c.args.other c.index-rows-other.result c.requires.other) in
    all_later c.args.admitted.now.graph c.args.tables.now.nodes c.args.item c.args.column.now c.args.other
    c.index-rows-other.result.first row.first c.if-column-row.true s

-- all columns of the other item are earlier, so none shares the slot
pub returns-then-row-column : goal.returns-then-row-column
returns-then-row-column c = λ s _.
    -- the sieved row of the other item
    let row : IsSievedRow (columns_of c.args.tables.now.nodes c.args.other) c.index-rows-other.result =
    subst (IsSievedRow (columns_of c.args.tables.now.nodes c.args.other)) (sym c.index-rows-other.is)
    (c.requires.fits.each c.args.other c.index-rows-other.result c.requires.other) in
    all_earlier c.args.admitted.now.graph c.args.tables.now.nodes c.args.item c.args.column.now c.args.other
    c.index-rows-other.result.last row.last c.if-row-column.true s

-- the row's columns are columns of the other item, and of the graph
pub least_near-requires-clause-columns : goal.least_near-requires-clause-columns
least_near-requires-clause-columns c =
    -- the sieved row of the other item
    let row : IsSievedRow (columns_of c.args.tables.now.nodes c.args.other) c.index-rows-other.result =
    subst (IsSievedRow (columns_of c.args.tables.now.nodes c.args.other)) (sym c.index-rows-other.is)
    (c.requires.fits.each c.args.other c.index-rows-other.result c.requires.other) in
    rw row.all (columns_are c.problem-problem.ensures.admitted c.args.tables.now.nodes c.requires.lawful c.args.other)

-- the question is about the graph: the column's cube has variables of the graph alone
pub least_near-requires-clause-fits : goal.least_near-requires-clause-fits
least_near-requires-clause-fits c = c.requires.column.cube.known

-- two columns share a slot only in scenarios in which both match
pub least_near-requires-clause-near : goal.least_near-requires-clause-near
least_near-requires-clause-near c = λ s d shared. shares_both c.args.column.now s d shared

-- the node of the item sends the other one, and the search went over all columns that may share the slot, so what it
-- found is the least scenario in which the column and the other item clash
pub returns : goal.returns
returns c =
    let graph = c.args.admitted.now.graph in
    let order = c.args.admitted.now.order in
    -- the columns of the other item
    let row : IsSievedRow (columns_of c.args.tables.now.nodes c.args.other) c.index-rows-other.result =
    subst (IsSievedRow (columns_of c.args.tables.now.nodes c.args.other)) (sym c.index-rows-other.is)
    (c.requires.fits.each c.args.other c.index-rows-other.result c.requires.other) in
    -- the same node sends it
    let sent : is_sent graph c.args.other ≡ true =
    rw (← c.problem-problem.ensures.problem) (sym c.if-not-is_sent.ensures) in
    let node : home graph c.args.other ≡ home graph c.args.item =
    rw (← c.problem-problem.ensures.problem) (sym c.home.ensures.home ∙ c.if-home.false ∙ c.home-2.ensures.home) in
    -- the least scenario in which one of them shares the slot
    let first : IsFirst graph order
    (λ s. list_any (λ d. shares c.args.column.now d s) (columns_of c.args.tables.now.nodes c.args.other))
    c.in_ok-found.found =
    rw row.all at c.in_ok-found.ensures in
    other_item graph c.args.tables.now.nodes c.args.item c.args.column.now c.args.other sent node order
    c.in_ok-found.found first
