-- Proof of `Cluster::choose`, which asks the nodes from node `first` on, round the circle, until one takes its turn or all
-- have been asked, and returns how many waited.
use Rattle.std.proofs.Common.{◌≡◌, ◌+◌, refl, sym, ap, arith, length, subst}
use Rattle.std.proofs.lemmas.List.{length-map}
use Rattle.cpg_cluster.specs.Playing.{Playing}
use Rattle.cpg_cluster.specs.declared.member.Member.{Member}
use Rattle.cpg_cluster.proofs.Driven.{IsChoosing, choosing_none, took_state, took_waits, waits_more, done_more}
use Rattle.cpg_cluster.proofs.Driven.{none_state, none_waits, none_took}
use Rattle.cpg_cluster.proofs.cluster.Cluster.choose.Goals as goal
use Rattle.cpg_cluster.proofs.cluster.Cluster.choose.Goals.{in-Waits, in-Done}

-- before the first ask all of the choice is left
pub loop-asked-init : goal.loop-asked-init
loop-asked-init c = record {
  same = refl;
  choosing =
      choosing_none c.args.self.now.graph c.args.self.now.world c.args.self.now.cluster c.len-nodes.result c.args.first;
}

-- there are as many members as nodes
count-took : (c : goal.In-Took) → c.len-nodes.result ≡ length c.args.self.now.graph.nodes
count-took c = omega (
  arith,
  c.len-nodes.ensures,
  ap (λ (p : Playing). length p.graph.nodes) c.self.view_is,
  c.self.invariant.playing.shape.count,
  length-map c.self.inside.members.items (λ (m : Member). m.node.dispatcher.table),
)

-- a node that takes its turn ends the choice with its step
pub returns-in-Took-clause-state : goal.returns-in-Took-clause-state
returns-in-Took-clause-state c = took_state c.args.self.now c.loop-asked.self c.step.new.self c.len-nodes.result
    c.args.first c.loop-asked.asked c.loop-asked.waits
    (count-took c) c.loop-asked.invariant.same c.in-Took.ensures.step
    c.loop-asked.invariant.choosing c.loop-asked-test.true c.in-Took.ensures.answer

-- as many nodes waited as in the choice
pub returns-in-Took-clause-waits : goal.returns-in-Took-clause-waits
returns-in-Took-clause-waits c = took_waits c.args.self.now c.loop-asked.self c.step.new.self c.len-nodes.result
    c.args.first c.loop-asked.asked c.loop-asked.waits
    (count-took c) c.loop-asked.invariant.same c.in-Took.ensures.step
    c.loop-asked.invariant.choosing c.loop-asked-test.true c.in-Took.ensures.answer

-- there are as many members as nodes
count-joined : (c : goal.Joined-step) → c.len-nodes.result ≡ length c.args.self.now.graph.nodes
count-joined c = omega (
  arith,
  c.len-nodes.ensures,
  ap (λ (p : Playing). length p.graph.nodes) c.self.view_is,
  c.self.invariant.playing.shape.count,
  length-map c.self.inside.members.items (λ (m : Member). m.node.dispatcher.table),
)

-- a node that waits, or is done, leaves the state as it was, and the rest of the choice
pub loop-asked-preserved : goal.loop-asked-preserved
loop-asked-preserved c = elim c.match-step.branch [
  -- the node waits: one more has waited
  | in-Waits w ↦
      let goes_on = waits_more c.args.self.now c.loop-asked.self c.step.new.self c.len-nodes.result c.args.first
      c.loop-asked.asked c.loop-asked.waits
      (count-joined c) c.loop-asked.invariant.same c.step.ensures.step
      c.loop-asked.invariant.choosing c.loop-asked-test.true w.in-Waits.on (w.in-Waits.ensures.answer) in
      record {
        same = goes_on.0;
        choosing = subst (λ n. IsChoosing c.args.self.now.graph c.args.self.now.world c.args.self.now.cluster
            c.len-nodes.result c.args.first (c.loop-asked.asked + 1) n)
            (sym w.waits-is) goes_on.1;
      }
  -- the node is done
  | in-Done w ↦
      let goes_on = done_more c.args.self.now c.loop-asked.self c.step.new.self c.len-nodes.result c.args.first
      c.loop-asked.asked c.loop-asked.waits
      (count-joined c) c.loop-asked.invariant.same c.step.ensures.step
      c.loop-asked.invariant.choosing c.loop-asked-test.true (w.in-Done.ensures.answer) in
      record {
        same = goes_on.0;
        choosing = subst (λ n. IsChoosing c.args.self.now.graph c.args.self.now.world c.args.self.now.cluster
            c.len-nodes.result c.args.first (c.loop-asked.asked + 1) n)
            (sym w.waits-is) goes_on.1;
      }
]

-- there are as many members as nodes
count-n : (c : goal.After-loop-asked) → c.len-nodes.result ≡ length c.args.self.now.graph.nodes
count-n c = omega (
  arith,
  c.len-nodes.ensures,
  ap (λ (p : Playing). length p.graph.nodes) c.self.view_is,
  c.self.invariant.playing.shape.count,
  length-map c.self.inside.members.items (λ (m : Member). m.node.dispatcher.table),
)

-- if every node was asked, the choice leaves the state as it is
pub returns-clause-state : goal.returns-clause-state
returns-clause-state c =
    none_state c.args.self.now c.loop-asked.self c.len-nodes.result c.args.first c.loop-asked.asked c.loop-asked.waits
    (count-n c) c.loop-asked.invariant.same c.loop-asked.invariant.choosing c.loop-asked-test.false

-- if every node was asked, as many waited as in the choice
pub returns-clause-waits : goal.returns-clause-waits
returns-clause-waits c =
    none_waits c.args.self.now c.loop-asked.self c.len-nodes.result c.args.first c.loop-asked.asked c.loop-asked.waits
    (count-n c) c.loop-asked.invariant.same c.loop-asked.invariant.choosing c.loop-asked-test.false

-- if every node was asked, nobody took a turn
pub returns-clause-nearer : goal.returns-clause-nearer
returns-clause-nearer c holds = absurd
    (none_took c.args.self.now c.loop-asked.self c.len-nodes.result c.args.first c.loop-asked.asked c.loop-asked.waits
    (count-n c) c.loop-asked.invariant.same c.loop-asked.invariant.choosing c.loop-asked-test.false holds)
