-- Proof of `all_fed`: returns the processes that can be placed, the lowest first.
use Rattle.cpg_tracks.specs.Timing.{outcome_of}
use Rattle.cpg_tracks.proofs.Feeding.{fed_below}
use Rattle.cpg_tracks.proofs.schedule.all_fed.Goals as goal

-- one more process is added, if it can be placed
pub loop-process-preserved : goal.loop-process-preserved
loop-process-preserved c = record {
  each = c.in_ok-feed.ensures.each c.loop-process.invariant.each;
  all = fed_below c.args.problem.now (outcome_of c.args.timing.now) c.args.starts.now c.loop-process.process
      c.loop-process.fed.items c.feed.new.fed.items c.in_ok-feed.ensures
      c.loop-process.invariant.all;
}
