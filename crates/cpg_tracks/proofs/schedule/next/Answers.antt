-- Proof of `next`: returns the process to place next: of those that can be placed, the one that would start first, and
-- of several the most urgent.
use Rattle.std.proofs.Common.{◌<◌, IfSome, ap, sym, subst, map, arith}
use Rattle.std.proofs.lemmas.List.{take_all}
use Rattle.cpg_base.specs.Graph.{process_count}
use Rattle.cpg_base.proofs.Places.{length_order}
use Rattle.cpg_tracks.specs.Timing.{IsBestOf}
use Rattle.cpg_tracks.specs.declared.schedule.Candidate.{Candidate}
use Rattle.cpg_tracks.specs.declared.schedule.FedProcess.{FedProcess}
use Rattle.cpg_tracks.proofs.GreedySteps.{best_after, chosen, either_within}
use Rattle.cpg_tracks.proofs.schedule.next.Goals as goal

-- the best candidate so far is a process of the graph, and the order has all of these
pub better-requires-clause-best : goal.better-requires-clause-best
better-requires-clause-best c =
    let long = length_order (process_count c.args.problem.now) c.args.order.now c.requires.order.all in
    subst (λ n. IfSome c.loop-fed_process.best (λ (c : Candidate). c.process < n)) (sym long) c.loop-fed_process.invariant.within

-- the order has a place for each process that can be placed
pub better-requires-clause-other : goal.better-requires-clause-other
better-requires-clause-other c =
    let long = length_order (process_count c.args.problem.now) c.args.order.now c.requires.order.all in
    let within = c.requires.within c.loop-fed_process.fed_process-index (record { process = 0; ready = 0 }) c.loop-fed_process-test.true in
    omega (arith, long, c.candidate_of-other.ensures.process, within)

-- the better of the best so far and one more candidate is the best of all up to that one
pub loop-fed_process-preserved : goal.loop-fed_process-preserved
loop-fed_process-preserved c =
    -- the candidate is a process of the graph
    let within = c.requires.within c.loop-fed_process.fed_process-index (record { process = 0; ready = 0 }) c.loop-fed_process-test.true in
    record {
      within = either_within (process_count c.args.problem.now) c.args.order.now c.loop-fed_process.best
          c.candidate_of-other.result c.better.result c.better.ensures c.loop-fed_process.invariant.within
          (omega (arith, c.candidate_of-other.ensures.process, within));
      best = λ o starts free fed. best_after c.args.problem.now o starts c.args.order.now c.requires.order
          c.args.free.now c.args.fed.now free fed
          c.loop-fed_process.fed_process-index (record { process = 0; ready = 0 }) c.loop-fed_process-test.true c.loop-fed_process.best
          c.candidate_of-other.result c.better.result
          (c.loop-fed_process.invariant.best o starts free fed) c.better.ensures c.candidate_of-other.ensures.node
          c.candidate_of-other.ensures.process c.candidate_of-other.ensures.start;
    }

-- all have been compared, so the best is the process to place next
pub returns : goal.returns
returns c o starts free fed =
    -- the loop has ended, so those so far are all
    let done =
    ap (map (λ (f : FedProcess). f.process)) (take_all c.loop-fed_process.fed_process-index c.args.fed.now c.loop-fed_process-test.false) in
    chosen c.args.problem.now o starts c.args.fed.now fed c.loop-fed_process.best
    (subst (λ qs. IsBestOf c.args.problem.now o starts qs c.loop-fed_process.best) done
    (c.loop-fed_process.invariant.best o starts free fed))
