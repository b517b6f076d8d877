-- Proof of `make`: makes the rows of the start of the process at a place and of what it sends, and narrows what its
-- node carries on and what its queue leaves.
use Rattle.std.proofs.Common.{◌≡◌, ◌∙◌, ◌+◌, ◌<◌, ◌∷◌, [], ◌++◌, length, get_or, set, sym, ap, subst, arith}
use Rattle.std.proofs.lemmas.List.{get_or_default}
use Rattle.cpg_base.specs.Graph.{Graph, process_count, node_of}
use Rattle.cpg_base.specs.Order.{place, before_on_node}
use Rattle.cpg_base.proofs.Places.{length_order}
use Rattle.cpg_list.specs.Made.{passed_by, queued_by, node_before, sent_before, AreCubesOf, AreCarried}
use Rattle.cpg_run.specs.Found.{columns_of_rows}
use Rattle.cpg_run.specs.RowLaws.{SameRowsBefore}
use Rattle.cpg_list.proofs.CodeQueue.{own_early, sent_early, carried_next}
use Rattle.cpg_list.proofs.CodeSame.{passed_cubes, queued_cubes}
use Rattle.cpg_list.proofs.making.make.Goals as goal

-- the order has as many places as there are processes
pub at-process-requires : goal.at-process-requires
at-process-requires c = omega (
  arith,
  c.requires.place,
  length_order (process_count c.args.listed.now.admitted.now.graph) c.args.listed.now.order.now
      c.requires.listed.topological.all,
)

-- the process at a place of the order is one of the graph
pub node_of-node-requires : goal.node_of-node-requires
node_of-node-requires c = omega (
  arith,
  ap (λ (h : Graph). process_count h) c.problem.ensures.problem,
  c.at-process.ensures.within,
  length_order (process_count c.args.listed.now.admitted.now.graph) c.args.listed.now.order.now
      c.requires.listed.topological.all,
)

-- the process at a place of the order is one of the graph
pub make_start-requires-clause-process : goal.make_start-requires-clause-process
make_start-requires-clause-process c = omega (
  arith,
  c.at-process.ensures.within,
  length_order (process_count c.args.listed.now.admitted.now.graph) c.args.listed.now.order.now
      c.requires.listed.topological.all,
)

-- the process at a place of the order is one of the graph
pub make_sends_after-requires-clause-process : goal.make_sends_after-requires-clause-process
make_sends_after-requires-clause-process c =
    omega (
      arith,
      c.at-process.ensures.within,
      length_order (process_count c.args.listed.now.admitted.now.graph) c.args.listed.now.order.now
          c.requires.listed.topological.all,
    )

-- the node's cubes are those of the processes before this one on the node
pub make_start-requires-clause-known : goal.make_start-requires-clause-known
make_start-requires-clause-known c =
    let graph = c.args.listed.now.admitted.now.graph in
    let order = c.args.listed.now.order.now in
    let process = c.at-process.result in
    let rows = columns_of_rows c.args.rows.now.items in
    -- the node that the code finds is that of the process
    let node : c.node_of-node.result ≡ node_of graph process =
    c.node_of-node.ensures.node ∙ ap (λ (h : Graph). node_of h process) c.problem.ensures.problem in
    let on : node_of graph process < length graph.nodes = omega
    (arith, node, c.node_of-node.ensures.within, ap (λ (h : Graph). length h.nodes) c.problem.ensures.problem) in
    -- the cubes that the code takes are those of this node
    let read : get_or c.args.known.now.items (node_of graph process) [] ≡ c.index_mut.result.now =
    ap (λ n. get_or c.args.known.now.items n []) (sym node) ∙
    sym (c.index_mut.ensures.value ∙ get_or_default c.args.known.now.items c.node_of-node.result c.index_mut.result.now
    [] (omega (arith, node, on, c.requires.carried.known_count))) in
    subst (AreCubesOf graph.faults c.args.listed.now.scenarios.now
    (passed_by graph rows (before_on_node graph order process))) read
    (subst (λ i. AreCubesOf graph.faults c.args.listed.now.scenarios.now
    (passed_by graph rows (node_before graph order (node_of graph process) i))
    (get_or c.args.known.now.items (node_of graph process) []))
    (sym c.at-process.ensures.back) (c.requires.carried.carries (node_of graph process) on))

-- the cubes of the node's queue stay right while the row of the start is made, since earlier rows stay
pub make_sends_after-requires-clause-queue : goal.make_sends_after-requires-clause-queue
make_sends_after-requires-clause-queue c =
    let graph = c.args.listed.now.admitted.now.graph in
    let order = c.args.listed.now.order.now in
    let process = c.at-process.result in
    let within : process < process_count graph = omega
    (arith, c.at-process.ensures.within, length_order (process_count graph) order c.requires.listed.topological.all) in
    let rows = columns_of_rows c.args.rows.now.items in
    let next = columns_of_rows c.make_start.new.rows.items in
    -- the node is that of the process, and one of the graph
    let node : c.node_of-node.result ≡ node_of graph process =
    c.node_of-node.ensures.node ∙ ap (λ (h : Graph). node_of h process) c.problem.ensures.problem in
    let on : node_of graph process < length graph.nodes = omega
    (arith, node, c.node_of-node.ensures.within, ap (λ (h : Graph). length h.nodes) c.problem.ensures.problem) in
    -- the queue that is read is the node's
    let read : get_or c.args.queues.now.items (node_of graph process) [] ≡ c.index_mut-2.result.now =
    ap (λ n. get_or c.args.queues.now.items n []) (sym node) ∙
    sym (c.index_mut-2.ensures.value ∙ get_or_default c.args.queues.now.items c.node_of-node.result
    c.index_mut-2.result.now [] (omega (arith, node, on, c.requires.carried.sent_count))) in
    -- its cubes are those from before, since no earlier row was changed
    subst (AreCubesOf graph.faults c.args.listed.now.scenarios.now
    (queued_by graph order next (sent_before graph order (node_of graph process) (place order process)))) read
    (queued_cubes graph order c.requires.listed.topological rows next
    (place order process) c.in_ok-make_start.ensures.same graph.faults c.args.listed.now.scenarios.now
    (get_or c.args.queues.now.items (node_of graph process) [])
    (sent_before graph order (node_of graph process) (place order process))
    (sent_early graph order c.requires.listed.topological process within (node_of graph process))
    (subst (λ i. AreCubesOf graph.faults c.args.listed.now.scenarios.now
    (queued_by graph order rows (sent_before graph order (node_of graph process) i))
    (get_or c.args.queues.now.items (node_of graph process) []))
    (sym c.at-process.ensures.back) (c.requires.carried.queues (node_of graph process) on)))

-- the node's cubes and queue are those before the next place, and other nodes keep theirs
pub returns-clause-carried : goal.returns-clause-carried
returns-clause-carried c =
    let graph = c.args.listed.now.admitted.now.graph in
    let order = c.args.listed.now.order.now in
    let process = c.at-process.result in
    let within : process < process_count graph = omega
    (arith, c.at-process.ensures.within, length_order (process_count graph) order c.requires.listed.topological.all) in
    let top = c.requires.listed.topological in
    let scenarios = c.args.listed.now.scenarios.now in
    let rows = columns_of_rows c.args.rows.now.items in
    let next = columns_of_rows c.make_start.new.rows.items in
    let last = columns_of_rows c.make_sends_after.new.rows.items in
    let back = c.at-process.ensures.back in
    -- the node is that of the process, and one of the graph
    let node : c.node_of-node.result ≡ node_of graph process =
    c.node_of-node.ensures.node ∙ ap (λ (h : Graph). node_of h process) c.problem.ensures.problem in
    let on : node_of graph process < length graph.nodes = omega
    (arith, node, c.node_of-node.ensures.within, ap (λ (h : Graph). length h.nodes) c.problem.ensures.problem) in
    -- the processes of the node up to this one, and the rows that stay as they were
    let after = before_on_node graph order process ++ process ∷ [] in
    let same : SameRowsBefore graph order (place order process) rows last =
    λ y e. c.in_ok-make_start.ensures.same y e ∙ c.in_ok-make_sends_after.ensures.same y e in
    -- the node's cubes are those of its processes up to this one
    let own = passed_cubes graph order top next last
    (place order process) c.in_ok-make_sends_after.ensures.same graph.faults scenarios c.make_start.new.known after
    (own_early graph order top process within) c.in_ok-make_start.ensures.known in
    let carried = subst (λ i. AreCarried graph order rows scenarios i c.args.known.now.items c.args.queues.now.items)
    (sym back) c.requires.carried in
    -- so all nodes carry what they carry before the next place
    let all = carried_next graph order top process within rows last same scenarios c.args.known.now.items
    c.args.queues.now.items carried
    on c.make_start.new.known c.make_sends_after.new.queue own
    c.in_ok-make_sends_after.ensures.queue in
    subst (λ i. AreCarried graph order last scenarios (i + 1)
    (set c.args.known.now.items c.node_of-node.result c.make_start.new.known)
    (set c.args.queues.now.items c.node_of-node.result c.make_sends_after.new.queue)) back
    (subst (λ n. AreCarried graph order last scenarios (place order process + 1) (set c.args.known.now.items n
    c.make_start.new.known) (set c.args.queues.now.items n c.make_sends_after.new.queue)) (sym node) all)
