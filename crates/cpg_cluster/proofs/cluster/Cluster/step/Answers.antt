-- Proof of `Cluster::step`, which asks a node: it takes the turn of its next instant, unless it has none or waits on
-- another node, and then nothing changes.
use Rattle.std.proofs.Common.{set, ◌≡◌, ◌<◌, ◌≤◌, arith, sym, ap, ◌∙◌, ℕ, length, filter, get_or, List, Some, subst}
use Rattle.std.specs.Prelude.{All}
use Rattle.std.specs.Vec.{vec_capacity}
use Rattle.std.proofs.lemmas.List.{length-map, length-set, get_or_default}
use Rattle.cpg_base.specs.Graph.{item_count}
use Rattle.cpg_base.specs.Numbers.{numbers_below}
use Rattle.cpg_node.specs.Dispatcher.{Frame, next}
use Rattle.cpg_table.specs.Table.{NodeTable, Row}
use Rattle.cpg_cluster.specs.Cluster.{Cluster, Took, Waits, Done, answer, answer_at, answer_by}
use Rattle.cpg_cluster.specs.Playing.{Playing, stepped}
use Rattle.cpg_cluster.specs.Keeping.{AreIndexed, HasNoted, answer_if, frames_by, waits_between}
use Rattle.cpg_cluster.specs.Kept.{cluster_of, playing_of}
use Rattle.cpg_cluster.specs.declared.member.Member.{Member}
use Rattle.cpg_cluster.specs.Driving.{remaining}
use Rattle.cpg_cluster.proofs.Answering.{takes_at, all_at}
use Rattle.cpg_cluster.proofs.Between.{dispatcher_is}
use Rattle.cpg_cluster.proofs.Noted.{all_noted, hears_there}
use Rattle.cpg_cluster.proofs.Stepping.{indexed, asked, waits_step, own_all, finish_all, ready_next, frames_fit}
use Rattle.cpg_cluster.proofs.Stepping.{turn_may, acts_fit, ends_fit, reports_fit, play_then, playing_then, nearer_then}
use Rattle.cpg_cluster.proofs.Stepping.{fits_then, heard_then}
use Rattle.cpg_cluster.proofs.cluster.Cluster.step.Goals as goal

-- a graph has at most 16 nodes, and there is a member for each
pub waited_on-requires-clause-few : goal.waited_on-requires-clause-few
waited_on-requires-clause-few c = omega (arith, c.self.invariant.few, ap length c.as_slice.ensures.value)

-- the arrivals of the member are indexed for each node
pub waited_on-requires-clause-indexed : goal.waited_on-requires-clause-indexed
waited_on-requires-clause-indexed c =
    let inside = c.self.inside in
    let invariant = c.self.invariant in
    let member = c.index-member.result.now in
    subst (λ (ms : List Member). AreIndexed member.node.dispatcher.table.hears member.senders.items
    (length ms) member.arrivals.items)
    (sym c.as_slice.ensures.value)
    (indexed inside.problem (record { scenario = inside.scenario; lengths = inside.lengths }) inside.members.items invariant.playing invariant.members
    c.args.node member c.index-member.ensures
    (omega (
      arith,
      c.requires,
      ap (λ (p : Playing). length p.graph.nodes) c.self.view_is,
      invariant.playing.shape.count,
      length-map inside.members.items (λ (m : Member). m.node.dispatcher.table),
    )))

-- The node waits on another. Helpers of this case end in `-w`.

-- the node is one of the members
within-w : (c : goal.In-Some-waited_on) → c.args.node < length c.self.inside.members.items
within-w c = omega (
  arith,
  c.requires,
  ap (λ (p : Playing). length p.graph.nodes) c.self.view_is,
  c.self.invariant.playing.shape.count,
  length-map c.self.inside.members.items (λ (m : Member). m.node.dispatcher.table),
)

-- the time is the next instant of the member
comes-w : (c : goal.In-Some-waited_on) → next c.index-member.result.now.node.dispatcher ≡ Some c.in-Some.time
comes-w c = sym c.next.ensures.next ∙ c.in-Some.is

-- By the members, the least node that it waits on gives its answer in the state: it waits on that node.
waits : (c : goal.In-Some-waited_on) →
    Waits c.in-Some-waited_on.on ≡ answer c.self.inside.problem (cluster_of c.self.inside.members.items) c.args.node
waits c =
    let inside = c.self.inside in
    let invariant = c.self.invariant in
    asked inside.problem (record { scenario = inside.scenario; lengths = inside.lengths }) inside.members.items invariant.playing invariant.members
    c.args.node c.index-member.result.now c.index-member.ensures
    (within-w c) c.in-Some.time (comes-w c) (Waits c.in-Some-waited_on.on) c.index-member.result.now
    (sym (ap answer_if c.in-Some-waited_on.is) ∙ c.waited_on.ensures c.index-member.result.now ∙
    ap (λ (ms : List Member). answer_by (filter (λ b. waits_between c.in-Some.time c.index-member.result.now b
    (get_or ms b c.index-member.result.now)) (numbers_below (length ms))))
    c.as_slice.ensures.value)

-- the node that it waits on is its answer
pub returns-in-Some-waited_on-clause-answer : goal.returns-in-Some-waited_on-clause-answer
returns-in-Some-waited_on-clause-answer c =
    waits c ∙ ap (λ (p : Playing). answer p.graph p.cluster c.args.node) c.self.view_is

-- a node that waits leaves the state as it was
pub returns-in-Some-waited_on-clause-step : goal.returns-in-Some-waited_on-clause-step
returns-in-Some-waited_on-clause-step c =
    let inside = c.self.inside in
    let invariant = c.self.invariant in
    subst (λ (p : Playing). p ≡ stepped p c.args.node) c.self.view_is
    (ap (λ (d : Cluster). record (playing_of inside) { cluster = d })
    (sym (waits_step inside.problem (record { scenario = inside.scenario; lengths = inside.lengths }) inside.members.items invariant.playing
    invariant.members c.args.node c.index-member.result.now c.index-member.ensures
    (within-w c) c.in-Some.time (comes-w c) c.in-Some-waited_on.on (waits c))))

-- a node that waits takes no turn
pub returns-in-Some-waited_on-clause-nearer : goal.returns-in-Some-waited_on-clause-nearer
returns-in-Some-waited_on-clause-nearer c takes = let conflict : Waits c.in-Some-waited_on.on ≡ Took =
    waits c ∙ ap (λ (p : Playing). answer p.graph p.cluster c.args.node) c.self.view_is ∙ takes in
    cc

-- The node takes its turn. Helpers end in `-f` where frames are gathered, and in `-t` where the turn is taken.

-- the node is one of the members
within-f : (c : goal.After-gather_frames-arg-3-1) → c.args.node < length c.self.inside.members.items
within-f c = omega (
  arith,
  c.requires,
  ap (λ (p : Playing). length p.graph.nodes) c.self.view_is,
  c.self.invariant.playing.shape.count,
  length-map c.self.inside.members.items (λ (m : Member). m.node.dispatcher.table),
)

-- the time is the next instant of the member
comes-f : (c : goal.After-gather_frames-arg-3-1) → next c.index-member.result.now.node.dispatcher ≡ Some c.in-Some.time
comes-f c = sym c.next.ensures.next ∙ c.in-Some.is

-- a node hears only items of the graph
pub gather_frames-requires-clause-items : goal.gather_frames-requires-clause-items
gather_frames-requires-clause-items c =
    let inside = c.self.inside in
    let invariant = c.self.invariant in
    subst (λ (rows : List Row). All (λ (row : Row). row.item < item_count inside.problem) rows)
    (sym (c.hears.ensures.hears ∙ ap (λ (t : NodeTable). t.hears) c.table.ensures))
    (hears_there inside.problem (record { scenario = inside.scenario; lengths = inside.lengths }) inside.members.items invariant.playing c.args.node
    c.index-member.result.now c.index-member.ensures (within-f c))

-- each member has noted what it has done
pub gather_frames-requires-clause-noted : goal.gather_frames-requires-clause-noted
gather_frames-requires-clause-noted c =
    let inside = c.self.inside in
    let invariant = c.self.invariant in
    subst (λ (ms : List Member). (i x : ℕ) (d : Member) → i < length ms → x < item_count inside.problem →
    HasNoted (get_or ms i d) x) (sym c.as_slice-2.ensures.value)
    (all_noted inside.problem (record { scenario = inside.scenario; lengths = inside.lengths }) inside.members.items invariant.playing invariant.members)

-- no more frames arrive than the node has hear rows, and there is room for those
pub gather_frames-requires-clause-room : goal.gather_frames-requires-clause-room
gather_frames-requires-clause-room c =
    let inside = c.self.inside in
    let invariant = c.self.invariant in
    -- the frames that arrive are those by the members' acts
    let is : frames_by inside.problem inside.scenario.values c.as_slice-2.result.now c.in-Some.time c.hears.result.now
    c.as_slice-3.result.now
    ≡ frames_by inside.problem inside.scenario.values inside.members.items c.in-Some.time
    c.index-member.result.now.node.dispatcher.table.hears c.index-member.result.now.senders.items =
    (λ i. frames_by inside.problem inside.scenario.values (c.as_slice-2.ensures.value i) c.in-Some.time
    ((c.hears.ensures.hears ∙ ap (λ (t : NodeTable). t.hears) c.table.ensures) i)
    (c.as_slice-3.ensures.value i)) in
    -- they are no more than the node's hear rows, for which there is room
    omega (
      arith,
      ap (λ (l : List Frame). length l) is,
      frames_fit inside.problem (record { scenario = inside.scenario; lengths = inside.lengths }) inside.members.items invariant.playing invariant.members
          c.args.node c.index-member.result.now c.index-member.ensures
          (within-f c) c.in-Some.time (comes-f c),
      subst (λ (m : Member). length m.node.dispatcher.table.hears ≤ vec_capacity inside.frames) (sym c.index-member.ensures)
          (invariant.frames c.args.node c.index-member.result.now (within-f c)),
    )

-- the node is one of the members
within-t : (c : goal.After-as_slice-4) → c.args.node < length c.self.inside.members.items
within-t c = omega (
  arith,
  c.requires,
  ap (λ (p : Playing). length p.graph.nodes) c.self.view_is,
  c.self.invariant.playing.shape.count,
  length-map c.self.inside.members.items (λ (m : Member). m.node.dispatcher.table),
)

-- the time is the next instant of the member
comes-t : (c : goal.After-as_slice-4) → next c.index-member.result.now.node.dispatcher ≡ Some c.in-Some.time
comes-t c = sym c.next.ensures.next ∙ c.in-Some.is

-- the member that is changed is the one that was read
same-t : (c : goal.After-as_slice-4) → c.index_mut-member.result.now ≡ c.index-member.result.now
same-t c = c.index_mut-member.ensures.value ∙ get_or_default c.self.inside.members.items c.args.node
    c.index_mut-member.result.now c.index-member.result.now (within-t c) ∙ sym c.index-member.ensures

-- so the time is the next instant of the member that is changed
mut-t : (c : goal.After-as_slice-4) → next c.index_mut-member.result.now.node.dispatcher ≡ Some c.in-Some.time
mut-t c = ap (λ (m : Member). next m.node.dispatcher) (same-t c) ∙ comes-t c

-- the node waits on none, so its answer is that it takes its turn
took-t : (c : goal.After-as_slice-4) →
    Took ≡ answer c.self.inside.problem (cluster_of c.self.inside.members.items) c.args.node
took-t c =
    let inside = c.self.inside in
    let invariant = c.self.invariant in
    asked inside.problem (record { scenario = inside.scenario; lengths = inside.lengths }) inside.members.items invariant.playing invariant.members
    c.args.node c.index-member.result.now c.index-member.ensures
    (within-t c) c.in-Some.time (comes-t c) Took c.index-member.result.now
    (sym (ap answer_if c.in_default-waited_on.is) ∙ c.waited_on.ensures c.index-member.result.now ∙
    ap (λ (ms : List Member). answer_by (filter (λ b. waits_between c.in-Some.time c.index-member.result.now b
    (get_or ms b c.index-member.result.now)) (numbers_below (length ms))))
    c.as_slice.ensures.value)

-- the frames that were gathered are those that the members give
frames-t : (c : goal.After-as_slice-4) →
    c.as_slice-4.result.now
    ≡ frames_by c.self.inside.problem c.self.inside.scenario.values c.self.inside.members.items c.in-Some.time
    c.index_mut-member.result.now.node.dispatcher.table.hears c.index_mut-member.result.now.senders.items
frames-t c =
    let inside = c.self.inside in
    let invariant = c.self.invariant in
    c.as_slice-4.ensures.value ∙ c.gather_frames.ensures.frames
    ∙ (λ i. frames_by inside.problem inside.scenario.values (c.as_slice-2.ensures.value i) c.in-Some.time
    ((c.hears.ensures.hears ∙ ap (λ (t : NodeTable). t.hears) c.table.ensures) i)
    (c.as_slice-3.ensures.value i))
    ∙ ap (λ (m : Member). frames_by inside.problem inside.scenario.values inside.members.items c.in-Some.time
    m.node.dispatcher.table.hears m.senders.items) (sym (same-t c))

-- the node's table says of each of its processes what the graph says
pub take_turn-requires-clause-own : goal.take_turn-requires-clause-own
take_turn-requires-clause-own c =
    let inside = c.self.inside in
    let invariant = c.self.invariant in
    own_all inside.problem (record { scenario = inside.scenario; lengths = inside.lengths }) inside.members.items invariant.playing invariant.members
    c.args.node c.index_mut-member.result.now c.index_mut-member.ensures.value
    (within-t c) c.in-Some.time (mut-t c)

-- the node may take the reports of all executions that are over
pub take_turn-requires-clause-finish : goal.take_turn-requires-clause-finish
take_turn-requires-clause-finish c =
    let inside = c.self.inside in
    let invariant = c.self.invariant in
    finish_all inside.problem (record { scenario = inside.scenario; lengths = inside.lengths }) inside.members.items invariant.playing invariant.members
    c.args.node c.index_mut-member.result.now c.index_mut-member.ensures.value
    (within-t c) c.in-Some.time (mut-t c)

-- after the reports the node may take its turn
pub take_turn-requires-clause-turn : goal.take_turn-requires-clause-turn
take_turn-requires-clause-turn c =
    let inside = c.self.inside in
    let invariant = c.self.invariant in
    turn_may inside.problem (record { scenario = inside.scenario; lengths = inside.lengths }) inside.members.items invariant.playing invariant.members
    c.args.node c.index_mut-member.result.now c.index_mut-member.ensures.value
    (within-t c) c.in-Some.time (mut-t c) c.as_slice-4.result.now (frames-t c)

-- the reports do not change the next instant
pub take_turn-requires-clause-next : goal.take_turn-requires-clause-next
take_turn-requires-clause-next c =
    let inside = c.self.inside in
    let invariant = c.self.invariant in
    ready_next inside.problem (record { scenario = inside.scenario; lengths = inside.lengths }) inside.members.items invariant.playing invariant.members
    c.args.node c.index_mut-member.result.now c.index_mut-member.ensures.value
    (within-t c) c.in-Some.time (mut-t c)

-- each process reports once, so there is room for the reports
pub take_turn-requires-clause-reports_fit : goal.take_turn-requires-clause-reports_fit
take_turn-requires-clause-reports_fit c =
    let inside = c.self.inside in
    let invariant = c.self.invariant in
    reports_fit inside.problem (record { scenario = inside.scenario; lengths = inside.lengths }) inside.members.items invariant.playing invariant.members
    c.args.node c.index_mut-member.result.now c.index_mut-member.ensures.value
    (within-t c) c.in-Some.time (mut-t c) c.as_slice-4.result.now (frames-t c) (took-t c)

-- each process ends once, so there is room for the ends
pub take_turn-requires-clause-ends_fit : goal.take_turn-requires-clause-ends_fit
take_turn-requires-clause-ends_fit c =
    let inside = c.self.inside in
    let invariant = c.self.invariant in
    ends_fit inside.problem (record { scenario = inside.scenario; lengths = inside.lengths }) inside.members.items invariant.playing invariant.members
    c.args.node c.index_mut-member.result.now c.index_mut-member.ensures.value
    (within-t c) c.in-Some.time (mut-t c) c.as_slice-4.result.now (frames-t c) (took-t c)

-- each row acts once, so there is room for the acts
pub take_turn-requires-clause-acts_fit : goal.take_turn-requires-clause-acts_fit
take_turn-requires-clause-acts_fit c =
    let inside = c.self.inside in
    let invariant = c.self.invariant in
    acts_fit inside.problem (record { scenario = inside.scenario; lengths = inside.lengths }) inside.members.items invariant.playing invariant.members
    c.args.node c.index_mut-member.result.now c.index_mut-member.ensures.value
    (within-t c) c.in-Some.time (mut-t c) c.as_slice-4.result.now (frames-t c) (took-t c)

-- After the turn. Helpers end in `-a`.

-- the node is one of the members
within-a : (c : goal.After-self-1) → c.args.node < length c.self.inside.members.items
within-a c = omega (
  arith,
  c.requires,
  ap (λ (p : Playing). length p.graph.nodes) c.self.view_is,
  c.self.invariant.playing.shape.count,
  length-map c.self.inside.members.items (λ (m : Member). m.node.dispatcher.table),
)

-- the time is the next instant of the member
comes-a : (c : goal.After-self-1) → next c.index-member.result.now.node.dispatcher ≡ Some c.in-Some.time
comes-a c = sym c.next.ensures.next ∙ c.in-Some.is

-- the member that is changed is the one that was read
same-a : (c : goal.After-self-1) → c.index_mut-member.result.now ≡ c.index-member.result.now
same-a c = c.index_mut-member.ensures.value ∙ get_or_default c.self.inside.members.items c.args.node
    c.index_mut-member.result.now c.index-member.result.now (within-a c) ∙ sym c.index-member.ensures

-- so the time is the next instant of the member that is changed
mut-a : (c : goal.After-self-1) → next c.index_mut-member.result.now.node.dispatcher ≡ Some c.in-Some.time
mut-a c = ap (λ (m : Member). next m.node.dispatcher) (same-a c) ∙ comes-a c

-- the node waits on none, so its answer is that it takes its turn
took-a : (c : goal.After-self-1) →
    Took ≡ answer c.self.inside.problem (cluster_of c.self.inside.members.items) c.args.node
took-a c =
    let inside = c.self.inside in
    let invariant = c.self.invariant in
    asked inside.problem (record { scenario = inside.scenario; lengths = inside.lengths }) inside.members.items invariant.playing invariant.members
    c.args.node c.index-member.result.now c.index-member.ensures
    (within-a c) c.in-Some.time (comes-a c) Took c.index-member.result.now
    (sym (ap answer_if c.in_default-waited_on.is) ∙ c.waited_on.ensures c.index-member.result.now ∙
    ap (λ (ms : List Member). answer_by (filter (λ b. waits_between c.in-Some.time c.index-member.result.now b
    (get_or ms b c.index-member.result.now)) (numbers_below (length ms))))
    c.as_slice.ensures.value)

-- the frames that were gathered are those that the members give
frames-a : (c : goal.After-self-1) →
    c.as_slice-4.result.now
    ≡ frames_by c.self.inside.problem c.self.inside.scenario.values c.self.inside.members.items c.in-Some.time
    c.index_mut-member.result.now.node.dispatcher.table.hears c.index_mut-member.result.now.senders.items
frames-a c =
    let inside = c.self.inside in
    let invariant = c.self.invariant in
    c.as_slice-4.ensures.value ∙ c.gather_frames.ensures.frames
    ∙ (λ i. frames_by inside.problem inside.scenario.values (c.as_slice-2.ensures.value i) c.in-Some.time
    ((c.hears.ensures.hears ∙ ap (λ (t : NodeTable). t.hears) c.table.ensures) i)
    (c.as_slice-3.ensures.value i))
    ∙ ap (λ (m : Member). frames_by inside.problem inside.scenario.values inside.members.items c.in-Some.time
    m.node.dispatcher.table.hears m.senders.items) (sym (same-a c))

-- after the turn it is a play still, and each member keeps what it should
pub invariant_of-self : goal.invariant_of-self
invariant_of-self c =
    let inside = c.self.inside in
    let invariant = c.self.invariant in
    record {
      -- it is a play, one ask further
      playing = (playing_then inside.problem (record { scenario = inside.scenario; lengths = inside.lengths }) inside.members.items
          invariant.playing invariant.members c.args.node c.index_mut-member.result.now
          c.index_mut-member.ensures.value (within-a c) c.in-Some.time (mut-a c) c.as_slice-4.result.now (frames-a c)
          (took-a c) c.take_turn.new.member c.take_turn.ensures.node c.take_turn.ensures.acts c.take_turn.ensures.noted
          c.take_turn.ensures.ends c.take_turn.ensures.reports c.take_turn.ensures.same
          c.take_turn.ensures.room);
      -- there are still at most 16 members
      few = omega (arith, invariant.few, length-set inside.members.items c.args.node c.take_turn.new.member);
      -- each member keeps what it should
      members = (fits_then inside.problem (record { scenario = inside.scenario; lengths = inside.lengths }) inside.members.items invariant.playing
          invariant.members c.args.node c.index_mut-member.result.now
          c.index_mut-member.ensures.value (within-a c) c.in-Some.time (mut-a c) c.as_slice-4.result.now (frames-a c)
          (took-a c) c.take_turn.new.member c.take_turn.ensures.node c.take_turn.ensures.acts c.take_turn.ensures.noted
          c.take_turn.ensures.ends c.take_turn.ensures.reports c.take_turn.ensures.same
          c.take_turn.ensures.room);
      -- and there is room for the frames of each node's turns
      frames = (heard_then inside.problem (record { scenario = inside.scenario; lengths = inside.lengths }) inside.members.items invariant.playing
          invariant.members c.args.node c.index_mut-member.result.now
          c.index_mut-member.ensures.value (within-a c) c.in-Some.time (mut-a c) c.as_slice-4.result.now (frames-a c)
          (took-a c) c.take_turn.new.member c.take_turn.ensures.node c.take_turn.ensures.acts c.take_turn.ensures.noted
          c.take_turn.ensures.ends c.take_turn.ensures.reports c.take_turn.ensures.same
          c.take_turn.ensures.room _
          (subst (λ (most : ℕ). All (λ (m : Member). length m.node.dispatcher.table.hears ≤ most) inside.members.items)
          (sym c.gather_frames.ensures.room) invariant.frames));
    }

-- the node took its turn, which is the answer of the state
pub returns-clause-answer : goal.returns-clause-answer
returns-clause-answer c = took-a c ∙ ap (λ (p : Playing). answer p.graph p.cluster c.args.node) c.self.view_is

-- the members after the turn are the state after the node is asked
pub returns-clause-step : goal.returns-clause-step
returns-clause-step c =
    let inside = c.self.inside in
    let invariant = c.self.invariant in
    (play_then inside.problem (record { scenario = inside.scenario; lengths = inside.lengths }) inside.members.items invariant.playing invariant.members
    c.args.node c.index_mut-member.result.now c.index_mut-member.ensures.value
    (within-a c) c.in-Some.time (mut-a c) c.as_slice-4.result.now (frames-a c)
    (took-a c) c.take_turn.new.member c.take_turn.ensures.node c.take_turn.ensures.acts c.take_turn.ensures.noted
    c.take_turn.ensures.ends c.take_turn.ensures.reports c.take_turn.ensures.same c.take_turn.ensures.room)
    ∙ ap (λ (p : Playing). stepped p c.args.node) c.self.view_is

-- a turn leaves its node fewer instants
pub returns-clause-nearer : goal.returns-clause-nearer
returns-clause-nearer c e =
    let inside = c.self.inside in
    let invariant = c.self.invariant in
    subst (λ (p : Playing). remaining (cluster_of (set inside.members.items c.args.node c.take_turn.new.member))
    < remaining p.cluster) c.self.view_is
    (nearer_then inside.problem (record { scenario = inside.scenario; lengths = inside.lengths }) inside.members.items invariant.playing invariant.members
    c.args.node c.index_mut-member.result.now c.index_mut-member.ensures.value
    (within-a c) c.in-Some.time (mut-a c) c.as_slice-4.result.now (frames-a c)
    (took-a c) c.take_turn.new.member c.take_turn.ensures.node c.take_turn.ensures.acts c.take_turn.ensures.noted
    c.take_turn.ensures.ends c.take_turn.ensures.reports c.take_turn.ensures.same c.take_turn.ensures.room)

-- What follows from an answer.

-- a node with the least next instant takes its turn
pub returns-in-Some-waited_on-clause-least : goal.returns-in-Some-waited_on-clause-least
returns-in-Some-waited_on-clause-least c h =
    waits c ∙ ap (λ (p : Playing). answer p.graph p.cluster c.args.node) c.self.view_is ∙
    takes_at (playing_of c.self.inside) c.args.self.now c.self.view_is c.self.invariant.playing c.args.node c.requires h

-- a node without a next instant is done, so it has done all that is due on it
pub returns-in_default-clause-whole : goal.returns-in_default-clause-whole
returns-in_default-clause-whole c _ =
    let inside = c.self.inside in
    -- there is such a member
    let within : c.args.node < length inside.members.items =
    omega (
      arith,
      c.requires,
      ap (λ (p : Playing). length p.graph.nodes) c.self.view_is,
      c.self.invariant.playing.shape.count,
      length-map inside.members.items (λ (m : Member). m.node.dispatcher.table),
    ) in
    -- its node has no next instant
    let none = ap next (dispatcher_is inside.members.items c.args.node c.index-member.result.now within
    ∙ ap (λ (m : Member). m.node.dispatcher) (sym c.index-member.ensures)) ∙ sym c.next.ensures.next ∙
    c.in_default.is in
    all_at (playing_of inside) c.args.self.now c.self.view_is c.self.invariant.playing c.args.node c.requires
    (ap (λ (p : Playing). answer p.graph p.cluster c.args.node) (sym c.self.view_is)
    ∙ ap (answer_at inside.problem (cluster_of inside.members.items) c.args.node) none)

-- the node took its turn, so it didn't answer that it is done
pub returns-clause-whole : goal.returns-clause-whole
returns-clause-whole c is_done = let conflict : Took ≡ Done = is_done in cc
