-- Proof of `least_delay`: the least scenario in which `column` and some column of `item` both match, and what the
-- latter begins is done only after the time of the former.
use Rattle.std.proofs.Common.{◌≤◌, ◌+◌, arith, sym, subst}
use Rattle.std.specs.List.{list_any}
use Rattle.cpg_base.specs.First.{IsFirst}
use Rattle.cpg_table.specs.Table.{columns_of}
use Rattle.cpg_check_time.specs.Delays.{IsMost, delays}
use Rattle.cpg_violation.specs.SievedRows.{IsSievedRow}
use Rattle.cpg_check_time.proofs.Judging.{columns_are}
use Rattle.cpg_check_time.proofs.DelayLaws.{delays_both, first_delay, never_delays}
use Rattle.cpg_check_time.proofs.delays.least_delay.Goals as goal

-- even what the item's last column begins is done by the time, so no column is late
pub returns-then-saturating_add-time : goal.returns-then-saturating_add-time
returns-then-saturating_add-time c =
    let graph = c.args.admitted.now.graph in
    -- the sieved row of the item
    let row : IsSievedRow (columns_of c.args.tables.now.nodes c.args.item) c.index-rows-item.result =
    subst (IsSievedRow (columns_of c.args.tables.now.nodes c.args.item)) (sym c.index-rows-item.is)
    (c.requires.rows.each c.args.item c.index-rows-item.result c.requires.item) in
    -- no column is later than the row's last time, and the delay is never longer than the most
    let most : IsMost graph c.args.delay c.most.result = rw (← c.problem-problem.ensures.problem) c.most.ensures.most in
    let early : c.index-rows-item.result.last + c.most.result ≤ c.args.column.now.time =
    omega (arith, c.if-saturating_add-time.true, c.saturating_add.ensures, c.requires.time) in
    never_delays graph c.args.column.now.cube c.args.delay c.args.column.now.time c.most.result
    c.index-rows-item.result.last most (columns_of c.args.tables.now.nodes c.args.item) row.last early

-- the row's columns are columns of the item, and of the graph
pub least_near-requires-clause-columns : goal.least_near-requires-clause-columns
least_near-requires-clause-columns c =
    -- the sieved row of the item
    let row : IsSievedRow (columns_of c.args.tables.now.nodes c.args.item) c.index-rows-item.result =
    subst (IsSievedRow (columns_of c.args.tables.now.nodes c.args.item)) (sym c.index-rows-item.is)
    (c.requires.rows.each c.args.item c.index-rows-item.result c.requires.item) in
    rw row.all (columns_are c.problem-problem.ensures.admitted c.args.tables.now.nodes c.requires.lawful c.args.item)

-- the question is about the graph: all variables of its cube are the graph's, and its delay is one of the graph
pub least_near-requires-clause-fits : goal.least_near-requires-clause-fits
least_near-requires-clause-fits c = record { cube = c.requires.cube; delay = c.requires.delay }

-- a column is late only in scenarios in which both columns match
pub least_near-requires-clause-near : goal.least_near-requires-clause-near
least_near-requires-clause-near c =
    λ s d delayed. delays_both c.args.admitted.now.graph c.args.column.now.cube c.args.delay c.args.column.now.time s d
    delayed

-- the search went over all columns of the item that may be late, so its answer is the least for them all
pub returns : goal.returns
returns c =
    let graph = c.args.admitted.now.graph in
    let order = c.args.admitted.now.order in
    -- the sieved row of the item
    let row : IsSievedRow (columns_of c.args.tables.now.nodes c.args.item) c.index-rows-item.result =
    subst (IsSievedRow (columns_of c.args.tables.now.nodes c.args.item)) (sym c.index-rows-item.is)
    (c.requires.rows.each c.args.item c.index-rows-item.result c.requires.item) in
    let first : IsFirst graph order
    (λ s. list_any (λ d. delays graph c.args.column.now.cube c.args.delay c.args.column.now.time d s)
    (columns_of c.args.tables.now.nodes c.args.item)) c.in_ok-found.found =
    rw row.all at c.in_ok-found.ensures in
    first_delay graph c.args.column.now.cube c.args.delay c.args.column.now.time order
    (columns_of c.args.tables.now.nodes c.args.item) c.in_ok-found.found first
