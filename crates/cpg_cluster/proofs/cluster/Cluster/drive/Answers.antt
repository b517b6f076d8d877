-- Proof of `Cluster::drive`, which asks nodes until every node is done, and returns how often a node waited.
use Rattle.std.proofs.Common.{◌/◌, ◌%◌, ◌^◌, ◌*◌, ◌+◌, ◌≡◌, ◌<◌, ◌≤◌, refl, sym, ap, ◌∙◌, arith, length, subst, List}
use Rattle.std.proofs.Common.{true}
use Rattle.std.specs.Prelude.{is_some}
use Rattle.std.specs.List.{list_any}
use Rattle.std.proofs.Math.Nat.{mod-lt}
use Rattle.std.proofs.lemmas.List.{length-map}
use Rattle.cpg_base.specs.Graph.{Graph}
use Rattle.cpg_node.specs.Dispatcher.{next}
use Rattle.cpg_cluster.specs.Playing.{Playing, IsPlaying}
use Rattle.cpg_cluster.specs.Driving.{AllDone, remaining}
use Rattle.cpg_cluster.specs.declared.member.Member.{Member}
use Rattle.cpg_cluster.proofs.Bounded.{few_of_circle}
use Rattle.cpg_cluster.proofs.Dues.{whole_play}
use Rattle.cpg_cluster.proofs.Drives.{driving_none, driving_done, takes_at, left_at, done_at, most_at, drive_step}
use Rattle.cpg_cluster.proofs.cluster.Cluster.drive.Goals as goal

-- before the first choice, the state and the number are the given ones and no node has waited
pub loop-self-init : goal.loop-self-init
loop-self-init c = record {
  same = refl;
  driving = driving_none c.args.self.now.graph c.args.self.now.world c.args.number c.args.self.now.cluster;
  spent = omega arith;
}

-- some node isn't done
left : (c : goal.After-choose-waits) →
    list_any (λ (m : Member). is_some (next m.node.dispatcher)) c.self-in-loop-self.inside.members.items ≡ true
left c = sym (c.loop-self-test.ensures.left
    ∙ ap (list_any (λ (m : Member). is_some (next m.node.dispatcher))) c.as_slice.ensures.value)

-- there are as many members as nodes
count : (c : goal.After-choose-waits) → c.len-nodes.result ≡ length c.loop-self.self.graph.nodes
count c = omega (
  arith,
  c.len-nodes.ensures,
  ap (λ (p : Playing). length p.graph.nodes) c.self.view_is,
  c.self.invariant.playing.shape.count,
  length-map c.self.inside.members.items (λ (m : Member). m.node.dispatcher.table),
  ap (λ (p : Playing). length p.graph.nodes) c.loop-self.invariant.same,
)

-- some member has a next instant, so there is a node
some : (c : goal.After-choose-waits) → 0 < c.len-nodes.result
some c = omega (
  arith,
  count c,
  c.loop-self-test.ensures.some,
  ap (λ (l : List Member). length l) c.as_slice.ensures.value,
  ap (λ (p : Playing). length p.graph.nodes) c.self-in-loop-self.view_is,
  c.self-in-loop-self.invariant.playing.shape.count,
  length-map c.self-in-loop-self.inside.members.items (λ (m : Member). m.node.dispatcher.table),
)

-- In the choice some node takes its turn, as one isn't done, and this leaves fewer instants.
nearer : (c : goal.After-choose-waits) → remaining c.choose-waits.new.self.cluster < remaining c.loop-self.self.cluster
nearer c =
    let inside = c.self-in-loop-self.inside in
    let invariant = c.self-in-loop-self.invariant in
    c.choose-waits.ensures.nearer (takes_at inside.problem (record { scenario = inside.scenario; lengths = inside.lengths })
    inside.members.items c.loop-self.self c.self-in-loop-self.view_is invariant.playing (left c) _
    (subst (λ nodes. (c.next_number-drawn.result / 2 ^ 33) % c.len-nodes.result < nodes) (count c)
    (mod-lt (c.next_number-drawn.result / 2 ^ 33) (some c))))

-- the choice uses up an instant, and at most 16 nodes wait in it, as there are no more
spent : (c : goal.After-choose-waits) →
    c.loop-self.waits + c.choose-waits.result + 16 * remaining c.choose-waits.new.self.cluster
    ≤ 16 * remaining c.args.self.now.cluster
spent c = omega (
  arith,
  nearer c,
  c.loop-self.invariant.spent,
  c.choose-waits.ensures.waits,
  few_of_circle c.loop-self.self.graph c.loop-self.self.world c.loop-self.self.cluster
      (length c.loop-self.self.graph.nodes) ((c.next_number-drawn.result / 2 ^ 33) % c.len-nodes.result),
  count c,
  c.len-nodes.ensures,
  c.self.invariant.few,
)

-- the count of waits doesn't overflow: it is at most 16 times the instants that were left at the start, which are few
pub overflow_add-waits : goal.overflow_add-waits
overflow_add-waits c =
    let inside = c.self.inside in
    omega (
      arith,
      spent c,
      most_at inside.problem (record { scenario = inside.scenario; lengths = inside.lengths }) inside.members.items c.args.self.now
          c.self.view_is c.self.invariant.playing c.self.invariant.few,
    )

-- the loop ends, as each choice uses up an instant
pub loop-self-smaller : goal.loop-self-smaller
loop-self-smaller c = nearer c

-- The choice is the one that the next number makes, so the drive is one choice longer. It was needed, as some node
-- wasn't done.
pub loop-self-preserved : goal.loop-self-preserved
loop-self-preserved c =
    let inside = c.self-in-loop-self.inside in
    let invariant = c.self-in-loop-self.invariant in
    let goes_on = drive_step c.args.self.now c.loop-self.self c.choose-waits.new.self c.args.number c.loop-self.drawn
    c.loop-self.waits c.next_number-drawn.result _ c.choose-waits.result
    c.loop-self.invariant.same c.loop-self.invariant.driving
    (left_at inside.problem (record { scenario = inside.scenario; lengths = inside.lengths }) inside.members.items c.loop-self.self
    c.self-in-loop-self.view_is invariant.playing (left c)) c.next_number-drawn.ensures
    (ap (λ nodes. (c.next_number-drawn.result / 2 ^ 33) % nodes) (count c)) c.choose-waits.ensures.state
    c.choose-waits.ensures.waits in
    record { same = goes_on.0; driving = goes_on.1; spent = spent c }

-- when no member has a next instant, every node is done
pub returns-clause-driven : goal.returns-clause-driven
returns-clause-driven c =
    let inside = c.self-in-loop-self.inside in
    let invariant = c.self-in-loop-self.invariant in
    driving_done c.args.self.now.graph c.args.self.now.world c.args.number c.args.self.now.cluster
    c.loop-self.self.cluster c.loop-self.drawn c.loop-self.waits c.loop-self.invariant.driving
    (subst (λ (g : Graph). AllDone g c.loop-self.self.cluster)
    (ap (λ (p : Playing). p.graph) c.loop-self.invariant.same)
    (done_at inside.problem (record { scenario = inside.scenario; lengths = inside.lengths }) inside.members.items c.loop-self.self
    c.self-in-loop-self.view_is invariant.playing
    (sym (c.loop-self-test.ensures.left
    ∙ ap (list_any (λ (m : Member). is_some (next m.node.dispatcher))) c.as_slice.ensures.value))))

-- a play in which every node is done is whole
pub returns-clause-whole : goal.returns-clause-whole
returns-clause-whole c = whole_play c.args.self.now c.loop-self.self c.loop-self.invariant.same
    (subst IsPlaying c.self-in-loop-self.view_is c.self-in-loop-self.invariant.playing)
    (returns-clause-driven c).done
