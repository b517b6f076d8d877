-- Proof of `ProcessorsColumnPairs::least_with`: the least scenario in which the execution of process `item` that a
-- column starts overlaps one of process `other`, if that is on the same node.
use Rattle.std.proofs.Common.{◌≡◌, ◌∙◌, arith, sym, subst}
use Rattle.std.specs.List.{list_any}
use Rattle.cpg_base.specs.Duration.{duration}
use Rattle.cpg_base.specs.Graph.{node_of}
use Rattle.cpg_base.specs.First.{IsFirst}
use Rattle.cpg_table.specs.Table.{columns_of}
use Rattle.cpg_check_time.specs.Clashes.{overlaps}
use Rattle.cpg_violation.specs.SievedRows.{IsSievedRow}
use Rattle.cpg_check_time.proofs.Judging.{columns_are}
use Rattle.cpg_check_time.proofs.ProcessorLaws.{overlaps_both, starts_late, ends_early, other_node}
use Rattle.cpg_check_time.proofs.processor.ProcessorsColumnPairs.least_with.Goals as goal

-- the longest execution that the column starts ends by the other item's first column, so none of the other item's
-- executions overlaps it
pub returns-then-row-column : goal.returns-then-row-column
returns-then-row-column c = λ s lawful.
    let graph = c.args.admitted.now.graph in
    -- the sieved row of the other item
    let row : IsSievedRow (columns_of c.args.tables.now.nodes c.args.other) c.index-rows-other.result =
    subst (IsSievedRow (columns_of c.args.tables.now.nodes c.args.other)) (sym c.index-rows-other.is)
    (c.requires.fits.each c.args.other c.index-rows-other.result (omega (arith, c.requires.other))) in
    -- an execution lasts longest with all faults of the graph
    let longest : c.duration.result ≡ duration graph c.args.item graph.faults =
    rw (← c.problem-problem.ensures.problem) (rw c.faults.ensures.faults at c.duration.ensures.duration) in
    starts_late graph c.args.tables.now.nodes c.args.item c.args.column.now c.args.other
    c.problem-problem.ensures.admitted.limits.few_processes s lawful c.requires.item c.index-rows-other.result.first
    row.first (omega (arith, c.if-row-column.true, longest))

-- the other item's longest execution from its last column ends by the column's time, so none of its executions overlaps
-- the one that the column starts
pub returns-then-saturating_add-column : goal.returns-then-saturating_add-column
returns-then-saturating_add-column c = λ s lawful.
    let graph = c.args.admitted.now.graph in
    -- the sieved row of the other item
    let row : IsSievedRow (columns_of c.args.tables.now.nodes c.args.other) c.index-rows-other.result =
    subst (IsSievedRow (columns_of c.args.tables.now.nodes c.args.other)) (sym c.index-rows-other.is)
    (c.requires.fits.each c.args.other c.index-rows-other.result (omega (arith, c.requires.other))) in
    -- an execution lasts longest with all faults of the graph
    let longest : c.duration-longest.result ≡ duration graph c.args.other graph.faults =
    rw (← c.problem-problem.ensures.problem)
    (rw c.faults-2.ensures.faults at c.duration-longest.ensures.duration) in
    ends_early graph c.args.tables.now.nodes c.args.item c.args.column.now c.args.other
    c.problem-problem.ensures.admitted.limits.few_processes s lawful c.requires.other c.index-rows-other.result.last
    row.last
    (omega (arith, c.if-saturating_add-column.true, c.saturating_add.ensures, c.requires.column.early, longest))

-- the row's columns are columns of the other item, and of the graph
pub least_near-requires-clause-columns : goal.least_near-requires-clause-columns
least_near-requires-clause-columns c =
    -- the sieved row of the other item
    let row : IsSievedRow (columns_of c.args.tables.now.nodes c.args.other) c.index-rows-other.result =
    subst (IsSievedRow (columns_of c.args.tables.now.nodes c.args.other)) (sym c.index-rows-other.is)
    (c.requires.fits.each c.args.other c.index-rows-other.result (omega (arith, c.requires.other))) in
    rw row.all (columns_are c.problem-problem.ensures.admitted c.args.tables.now.nodes c.requires.lawful c.args.other)

-- the question is about the graph: the graph is within its limits, its processes are the two, and the column is one of
-- the tables' columns, so it has the graph's variables and an early time
pub least_near-requires-clause-fits : goal.least_near-requires-clause-fits
least_near-requires-clause-fits c = record {
  limits = c.problem-problem.ensures.admitted.limits;
  process = c.requires.item;
  column = c.requires.column;
  other = c.requires.other;
}

-- two executions overlap only in scenarios in which both columns match
pub least_near-requires-clause-near : goal.least_near-requires-clause-near
least_near-requires-clause-near c = λ s d overlapping. overlaps_both c.args.admitted.now.graph
    c.problem-problem.ensures.admitted.limits c.args.item c.requires.item c.args.column.now c.args.other d s overlapping

-- both processes are on one node, and the search went over all columns whose executions may overlap, so what it found
-- is the least scenario in which the column and the other process clash
pub returns : goal.returns
returns c =
    let graph = c.args.admitted.now.graph in
    let order = c.args.admitted.now.order in
    -- the sieved row of the other item
    let row : IsSievedRow (columns_of c.args.tables.now.nodes c.args.other) c.index-rows-other.result =
    subst (IsSievedRow (columns_of c.args.tables.now.nodes c.args.other)) (sym c.index-rows-other.is)
    (c.requires.fits.each c.args.other c.index-rows-other.result (omega (arith, c.requires.other))) in
    let node : node_of graph c.args.other ≡ node_of graph c.args.item = rw (← c.problem-problem.ensures.problem)
    (sym c.node_of.ensures.node ∙ c.if-node_of.false ∙ c.node_of-2.ensures.node) in
    let first : IsFirst graph order (λ s. list_any (λ d. overlaps graph c.args.item c.args.column.now c.args.other d s)
    (columns_of c.args.tables.now.nodes c.args.other)) c.in_ok-found.found =
    rw row.all at c.in_ok-found.ensures in
    other_node graph c.args.tables.now.nodes c.args.item c.args.column.now c.args.other node order c.in_ok-found.found
    first
