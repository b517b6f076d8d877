-- Proof of `gather_ends`: adds the reports whose planned end is this time, each with it, by process.
use Rattle.std.proofs.Common.{ℕ, ◌<◌, ◌++◌, ◌∙◌, None, ap, arith, get_or, length}
use Rattle.std.specs.Option.{option_to_list}
use Rattle.std.specs.Vec.{vec_capacity}
use Rattle.cpg_node.specs.Dispatcher.{Ended, Own, due_reports_of}
use Rattle.cpg_cluster.specs.Taking.{ends_by}
use Rattle.cpg_cluster.proofs.Gathered.{mapped_fits, mapped_on}
use Rattle.cpg_cluster.proofs.told.gather_ends.Goals as goal

-- a report with this time as its planned end
abbrev at : ℕ → Ended → ℕ × Ended
at time e = (time, e)

-- the end of the next process is added to those before
pub loop-place-preserved : goal.loop-place-preserved
loop-place-preserved c =
    let due = due_reports_of c.args.time in
    let runs = c.args.running.now in
    let place = c.loop-place.place in
    let in_runs : place < length runs = omega (arith, c.loop-place-test.true, c.requires.same) in
    let given = c.planned_end-end.ensures ∙ ap (λ (o : Own). due o (get_or runs place None)) c.index-own-place.is in
    record {
      ends = mapped_on (at c.args.time) due c.args.own.now runs place c.index-own-place.result None
          (option_to_list c.planned_end-end.result) c.loop-place.ends.items c.add_end.new.ends.items
          (c.args.ends.now.items ++ ends_by c.args.time c.args.own.now runs) c.loop-place-test.true in_runs given
          c.add_end.ensures.ends c.loop-place.invariant.ends;
      room = c.add_end.ensures.room ∙ c.loop-place.invariant.room;
    }

-- the ends of all processes have room, so that of the next one has
pub add_end-requires : goal.add_end-requires
add_end-requires c =
    let due = due_reports_of c.args.time in
    let runs = c.args.running.now in
    let place = c.loop-place.place in
    let in_runs : place < length runs = omega (arith, c.loop-place-test.true, c.requires.same) in
    let given = c.planned_end-end.ensures ∙ ap (λ (o : Own). due o (get_or runs place None)) c.index-own-place.is in
    let fits = mapped_fits (at c.args.time) due c.args.own.now runs place c.index-own-place.result None
    (option_to_list c.planned_end-end.result) c.loop-place.ends.items
    (c.args.ends.now.items ++ ends_by c.args.time c.args.own.now runs) (vec_capacity c.args.ends.now)
    c.loop-place-test.true in_runs given c.loop-place.invariant.ends c.requires.room in
    omega (arith, fits, c.loop-place.ends.ok.0, c.loop-place.invariant.room)
