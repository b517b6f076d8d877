-- Proof of `first_in_row`: the place of the first column of an item that breaks the judge's rule in some scenario, with
-- the least such scenario.
use Rattle.cpg_violation.proofs.HeadLaws.{tables_of_graph}
use Rattle.std.proofs.Common.{length, arith, ap, subst}
use Rattle.cpg_base.specs.First.{IsFirst}
use Rattle.cpg_table.proofs.RowColumns.{columns_few}
use Rattle.cpg_check_time.specs.Columns.{breaks_column}
use Rattle.cpg_check_time.proofs.Judging.{place_there, first_here, none_here, column_is}
use Rattle.cpg_check_time.proofs.judge.first_in_row.Goals as goal

-- the tables are lawful tables of the graph
pub least-requires-clause-lawful : goal.least-requires-clause-lawful
least-requires-clause-lawful g c = tables_of_graph c.args.admitted.now.graph c.args.tables.now.head
    c.args.tables.now.nodes c.requires.head c.columns_of-columns.ensures.lawful

-- a row has at most `MOST_LOAD` columns, so a place fits into 32 bits
pub overflow_cast-result : goal.overflow_cast-result
overflow_cast-result g c = omega (
  arith,
  c.loop-place-test.true,
  ap length c.columns_of-columns.ensures.columns,
  columns_few c.args.tables.now.head c.args.tables.now.nodes c.columns_of-columns.ensures.lawful c.args.item,
)

-- the column is one of the item's, in tables of an admitted graph
pub least-requires-clause-column : goal.least-requires-clause-column
least-requires-clause-column g c =
    column_is c.requires.admitted c.args.tables.now.nodes
    (tables_of_graph c.args.admitted.now.graph c.args.tables.now.head c.args.tables.now.nodes c.requires.head
    c.columns_of-columns.ensures.lawful) c.args.item c.index-columns-place.result
    (place_there g.J.TimeJudge.rule g.met.J.TimeJudge.alone c.args.admitted.now.graph c.args.tables.now.nodes
    c.args.item c.args.admitted.now.order c.columns_of-columns.result.now
    c.columns_of-columns.ensures.columns
    c.loop-place.place c.index-columns-place.result c.loop-place-test.true c.index-columns-place.is)

-- no earlier column breaks the rule, so this is the first one that does
pub returns-in-Some-clause-first : goal.returns-in-Some-clause-first
returns-in-Some-clause-first g c =
    first_here g.J.TimeJudge.rule g.met.J.TimeJudge.alone c.args.admitted.now.graph c.args.tables.now.nodes c.args.item
    c.args.admitted.now.order c.columns_of-columns.result.now
    c.columns_of-columns.ensures.columns
    c.loop-place.place c.index-columns-place.result c.loop-place-test.true c.index-columns-place.is
    c.in-Some.scenario c.loop-place.invariant
    (subst (IsFirst c.args.admitted.now.graph c.args.admitted.now.order (breaks_column g.J.TimeJudge.rule
    c.args.admitted.now.graph c.args.tables.now.nodes c.args.item c.index-columns-place.result))
    c.in-Some.is c.in_ok-least.ensures)

-- this column doesn't break the rule, so none so far does
pub loop-place-preserved : goal.loop-place-preserved
loop-place-preserved g c =
    none_here g.J.TimeJudge.rule g.met.J.TimeJudge.alone c.args.admitted.now.graph c.args.tables.now.nodes c.args.item
    c.args.admitted.now.order c.columns_of-columns.result.now
    c.columns_of-columns.ensures.columns
    c.loop-place.place c.index-columns-place.result c.loop-place-test.true c.index-columns-place.is
    c.loop-place.invariant
    (subst (IsFirst c.args.admitted.now.graph c.args.admitted.now.order (breaks_column g.J.TimeJudge.rule
    c.args.admitted.now.graph c.args.tables.now.nodes c.args.item c.index-columns-place.result))
    c.in_default.is c.in_ok-least.ensures)
