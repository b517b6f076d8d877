-- Proof of `hit`: the place of a column that has a given time and matches in a scenario.
use Rattle.std.proofs.Common.{◌∙◌, ◌<◌, length, get_or, sym, ap, rules, []}
use Rattle.std.proofs.lemmas.List.{get_or_default}
use Rattle.cpg_cube.specs.Cube.{matches}
use Rattle.cpg_cube.specs.declared.column.Column.{Column}
use Rattle.cpg_list.specs.TimeOrder.{TimedColumn}
use Rattle.cpg_list.proofs.CodeTimes.{missed_end, missed_time, passed_more}
use Rattle.cpg_list.proofs.timed.hit.Goals as goal

-- the search comes to another time, so no column of the time matches
pub returns-then-timed-time : goal.returns-then-timed-time
returns-then-timed-time c =
    let blank : TimedColumn = record { time = 0; place = 0 } in
    missed_time c.args.columns.now c.args.by_time.now c.requires c.args.time c.args.scenario.now c.first_at-first.result
    c.first_at-first.ensures c.loop-at.at c.loop-at.invariant
    (get_or c.args.by_time.now c.loop-at.at blank)
    c.loop-at.auto.at c.loop-at-test.true
    (get_or_default c.args.by_time.now c.loop-at.at blank _ c.loop-at-test.true) c.if-timed-time.true

-- each place of the time order is that of a column
pub bounds-columns-timed : goal.bounds-columns-timed
bounds-columns-timed c =
    let none : Column = record { time = 0; cube = [] } in
    (c.requires.each c.loop-at.at (record { time = 0; place = 0 }) none c.loop-at-test.true).0

-- the place that is noted is one of the row
pub offset_bounds-columns-timed : goal.offset_bounds-columns-timed
offset_bounds-columns-timed c =
    let none : Column = record { time = 0; cube = [] } in
    let inside : (get_or c.args.by_time.now c.loop-at.at (record { time = 0; place = 0 })).place
    < length c.args.columns.now =
    (c.requires.each c.loop-at.at (record { time = 0; place = 0 }) none c.loop-at-test.true).0 in
    search rules

-- from `first` to the end each column has the time and doesn't match, so no column of the row is a hit
pub returns : goal.returns
returns c = missed_end c.args.columns.now c.args.by_time.now c.requires c.args.time c.args.scenario.now
    c.first_at-first.result c.first_at-first.ensures c.loop-at.at c.loop-at.invariant
    c.loop-at-test.false

-- one column more of the time doesn't match
pub loop-at-preserved : goal.loop-at-preserved
loop-at-preserved c =
    let blank : TimedColumn = record { time = 0; place = 0 } in
    passed_more c.args.columns.now c.args.by_time.now c.args.time c.args.scenario.now c.first_at-first.result
    c.loop-at.at c.loop-at.invariant blank c.loop-at-test.true c.if-timed-time.false
    c.index-columns-timed.result
    (c.requires.each c.loop-at.at blank c.index-columns-timed.result c.loop-at-test.true).0 c.index-columns-timed.is
    (ap (λ (x : Column). matches x.cube c.args.scenario.now) c.index-columns-timed.is ∙ sym c.matches.ensures
    ∙ c.if-matches.false)
