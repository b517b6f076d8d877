-- Proof of `gather_reports`: adds the reports of executions that are over by the time and haven't been taken, by
-- process.
use Rattle.std.proofs.Common.{◌<◌, ◌++◌, ◌∙◌, None, ap, arith, get_or, length}
use Rattle.std.specs.Option.{option_to_list}
use Rattle.std.specs.Vec.{vec_capacity}
use Rattle.cpg_node.specs.Dispatcher.{Own}
use Rattle.cpg_cluster.specs.Cluster.{World, report_of}
use Rattle.cpg_cluster.specs.Taking.{reports_by}
use Rattle.cpg_cluster.proofs.Gathered.{gathered_fits, gathered_on}
use Rattle.cpg_cluster.proofs.told.gather_reports.Goals as goal

-- the report of the next process is added to those before
pub loop-place-preserved : goal.loop-place-preserved
loop-place-preserved c =
    let world : World = record { scenario = c.args.scenario.now; lengths = c.args.lengths.now } in
    let reports = report_of c.args.problem.now world c.args.time in
    let runs = c.args.running.now in
    let place = c.loop-place.place in
    let in_runs : place < length runs = omega (arith, c.loop-place-test.true, c.requires.same) in
    let given = c.report_of-report.ensures
    ∙ ap (λ (o : Own). reports o (get_or runs place None)) c.index-own-place.is in
    record {
      reports = gathered_on reports c.args.own.now runs place c.index-own-place.result None
          (option_to_list c.report_of-report.result) c.loop-place.reports.items c.add_report.new.reports.items
          (c.args.reports.now.items ++ reports_by c.args.problem.now world c.args.time c.args.own.now runs)
          c.loop-place-test.true in_runs given c.add_report.ensures.reports c.loop-place.invariant.reports;
      room = c.add_report.ensures.room ∙ c.loop-place.invariant.room;
    }

-- the reports of all processes have room, so that of the next one has
pub add_report-requires : goal.add_report-requires
add_report-requires c =
    let world : World = record { scenario = c.args.scenario.now; lengths = c.args.lengths.now } in
    let reports = report_of c.args.problem.now world c.args.time in
    let runs = c.args.running.now in
    let place = c.loop-place.place in
    let in_runs : place < length runs = omega (arith, c.loop-place-test.true, c.requires.same) in
    let given = c.report_of-report.ensures
    ∙ ap (λ (o : Own). reports o (get_or runs place None)) c.index-own-place.is in
    let fits = gathered_fits reports c.args.own.now runs place c.index-own-place.result None
    (option_to_list c.report_of-report.result) c.loop-place.reports.items
    (c.args.reports.now.items ++ reports_by c.args.problem.now world c.args.time c.args.own.now runs)
    (vec_capacity c.args.reports.now) c.loop-place-test.true in_runs given c.loop-place.invariant.reports
    c.requires.room in
    omega (arith, fits, c.loop-place.reports.ok.0, c.loop-place.invariant.room)
