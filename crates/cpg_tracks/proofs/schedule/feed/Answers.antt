-- Proof of `feed`: adds a process to those that can be placed, if it can be.
use Rattle.std.proofs.Common.{◌∙◌, sym, subst, arith}
use Rattle.std.proofs.lemmas.Bool.{both_ways}
use Rattle.cpg_base.specs.Activity.{active}
use Rattle.cpg_tracks.specs.Timing.{outcome_of, Feeds}
use Rattle.cpg_tracks.proofs.GreedySteps.{active_is, active_long}
use Rattle.cpg_tracks.proofs.Feeding.{feeds_none, feeds_one}
use Rattle.cpg_tracks.proofs.schedule.feed.Goals as goal

-- the process is one of the graph, and there is a mark for each
pub index-requires : goal.index-requires
index-requires c = omega (arith, c.requires.process, active_long c.args.problem.now c.args.timing.now c.requires.timing)

-- an inactive process can't be placed, so nothing is added
pub returns-then-not-index : goal.returns-then-not-index
returns-then-not-index c =
    let is = c.index.ensures ∙ active_is c.args.problem.now c.args.timing.now c.requires.timing c.args.process
    c.index.result.now c.requires.process in
    feeds_none c.args.problem.now (outcome_of c.args.timing.now) c.args.starts.now c.args.process c.args.fed.now.items
    (λ fed. both_ways (active c.args.problem.now (outcome_of c.args.timing.now) c.args.process)
    (sym is ∙ c.if-not-index.true) fed.active)

-- the mark of the process is true, and the marks say which processes are active
pub ready_time-requires-clause-active : goal.ready_time-requires-clause-active
ready_time-requires-clause-active c =
    sym (c.index.ensures ∙ active_is c.args.problem.now c.args.timing.now c.requires.timing c.args.process
    c.index.result.now c.requires.process) ∙ c.if-not-index.false

-- a process that is ready can be placed, and is added
pub returns-in_ok-push : goal.returns-in_ok-push
returns-in_ok-push c =
    let outcome = outcome_of c.args.timing.now in
    subst (Feeds c.args.problem.now outcome c.args.starts.now c.args.process c.args.fed.now.items)
    (sym c.in_ok-push.ensures.items)
    (feeds_one c.args.problem.now outcome c.args.starts.now c.args.process c.in-Some.ready c.args.fed.now.items
    c.in-Some.ensures.fed c.in-Some.ensures.ready)
