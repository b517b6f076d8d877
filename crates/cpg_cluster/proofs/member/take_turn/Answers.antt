-- Proof of `take_turn`: a member takes the reports of the executions that are over by its next instant `time`, and then its
-- turn with these frames. It keeps what it did, and the reports whose planned end this is.
use Rattle.std.proofs.Common.{◌≡◌, ◌++◌, [], arith, sym, ap, ap₂, Option, ◌∙◌, length, ◌≤◌, List, fold, subst}
use Rattle.cpg_table.specs.Table.{NodeTable}
use Rattle.cpg_node.specs.Dispatcher.{Own, Running, Act, next, turn, acts_of_turn}
use Rattle.std.specs.Vec.{vec_capacity}
use Rattle.cpg_node.specs.State.{NodeState}
use Rattle.cpg_cluster.specs.Taking.{ready, all_finished, reports_of, reports_by}
use Rattle.cpg_cluster.specs.Keeping.{note}
use Rattle.cpg_cluster.proofs.Asking.{at_some, tail_is}
use Rattle.cpg_cluster.proofs.member.take_turn.Goals as goal

-- The dispatcher before the turn has taken the reports: those that were added behind the earlier ones are just these.
ready-1 : (c : goal.After-acts) →
    c.finish_all.new.node.dispatcher
    ≡ ready c.args.problem.now c.args.scenario.now c.args.lengths.now c.args.time c.args.member.now.node.dispatcher
ready-1 c =
    ap (λ (s : NodeState). s.dispatcher) c.finish_all.ensures ∙ ap (all_finished c.args.member.now.node.dispatcher)
    (tail_is c.deref.result.now c.args.member.now.reports.items (reports_of c.args.problem.now c.args.scenario.now
    c.args.lengths.now c.args.time c.args.member.now.node.dispatcher) c.len-first.result
    (c.deref.ensures.value ∙ c.gather_reports.ensures.reports ∙ ap (λ l. c.args.member.now.reports.items ++ l)
    (ap₂ (λ (os : List Own) (rs : List (Option Running)). reports_by c.args.problem.now
    (record { scenario = c.args.scenario.now; lengths = c.args.lengths.now }) c.args.time os rs)
    (c.own-own.ensures.own ∙ ap (λ (t : NodeTable). t.own) c.table.ensures) c.executions-running.ensures.executions))
    (omega arith))

-- the acts of the node are those of its turn, which is at its next instant
done-1 : (c : goal.After-acts) →
    c.acts.result.now ≡ acts_of_turn (ready c.args.problem.now c.args.scenario.now c.args.lengths.now c.args.time
    c.args.member.now.node.dispatcher) c.args.time []
    c.args.frames.now
done-1 c = c.acts.ensures ∙ at_some (next c.finish_all.new.node.dispatcher) c.args.time
    (λ time. c.turn.new.self.acts ≡ acts_of_turn c.finish_all.new.node.dispatcher time [] c.args.frames.now)
    (ap next (ready-1 c) ∙ c.requires.next) c.turn.ensures.acts
    ∙ ap (λ d. acts_of_turn d c.args.time [] c.args.frames.now) (ready-1 c)

-- there is room for the acts of the turn, as the caller requires
pub append_acts-requires : goal.append_acts-requires
append_acts-requires c =
    subst (λ (as' : List Act). length (c.args.member.now.acts.items ++ as') ≤ vec_capacity c.args.member.now.acts)
    (sym (done-1 c)) c.requires.acts_fit

-- the same as `ready-1`, seen from after the acts are noted
ready-2 : (c : goal.After-note_acts) →
    c.finish_all.new.node.dispatcher
    ≡ ready c.args.problem.now c.args.scenario.now c.args.lengths.now c.args.time c.args.member.now.node.dispatcher
ready-2 c =
    ap (λ (s : NodeState). s.dispatcher) c.finish_all.ensures ∙ ap (all_finished c.args.member.now.node.dispatcher)
    (tail_is c.deref.result.now c.args.member.now.reports.items (reports_of c.args.problem.now c.args.scenario.now
    c.args.lengths.now c.args.time c.args.member.now.node.dispatcher) c.len-first.result
    (c.deref.ensures.value ∙ c.gather_reports.ensures.reports ∙ ap (λ l. c.args.member.now.reports.items ++ l)
    (ap₂ (λ (os : List Own) (rs : List (Option Running)). reports_by c.args.problem.now
    (record { scenario = c.args.scenario.now; lengths = c.args.lengths.now }) c.args.time os rs)
    (c.own-own.ensures.own ∙ ap (λ (t : NodeTable). t.own) c.table.ensures) c.executions-running.ensures.executions))
    (omega arith))

-- the node takes its turn from the state after the reports
pub returns-clause-node : goal.returns-clause-node
returns-clause-node c = at_some (next c.finish_all.new.node.dispatcher) c.args.time
    (λ time. c.turn.new.self.dispatcher ≡ turn c.finish_all.new.node.dispatcher time [] c.args.frames.now)
    (ap next (ready-2 c) ∙ c.requires.next) c.turn.ensures.turn
    ∙ ap (λ d. turn d c.args.time [] c.args.frames.now) (ready-2 c)

-- the acts of the turn are added to those before
pub returns-clause-acts : goal.returns-clause-acts
returns-clause-acts c = c.append_acts.ensures.acts ∙ ap (λ l. c.args.member.now.acts.items ++ l)
    (c.acts.ensures ∙ at_some (next c.finish_all.new.node.dispatcher) c.args.time
    (λ time. c.turn.new.self.acts ≡ acts_of_turn c.finish_all.new.node.dispatcher time [] c.args.frames.now)
    (ap next (ready-2 c) ∙ c.requires.next) c.turn.ensures.acts
    ∙ ap (λ d. acts_of_turn d c.args.time [] c.args.frames.now) (ready-2 c))

-- the acts of the turn are noted at their items
pub returns-clause-noted : goal.returns-clause-noted
returns-clause-noted c = c.note_acts.ensures ∙ ap (λ (as' : List Act). fold note c.args.member.now.noted.items as')
    (c.acts-2.ensures ∙ at_some (next c.finish_all.new.node.dispatcher) c.args.time
    (λ time. c.turn.new.self.acts ≡ acts_of_turn c.finish_all.new.node.dispatcher time [] c.args.frames.now)
    (ap next (ready-2 c) ∙ c.requires.next) c.turn.ensures.acts
    ∙ ap (λ d. acts_of_turn d c.args.time [] c.args.frames.now) (ready-2 c))
