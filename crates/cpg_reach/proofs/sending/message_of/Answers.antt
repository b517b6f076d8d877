-- Proof of `message_of`, which returns what the time of a message depends on.
use Rattle.std.proofs.Common.{◌≡◌, ◌<◌, ◌++◌, [], sym, ap, ◌∙◌, get_or, arith, true, false}
use Rattle.cpg_base.specs.Graph.{process_count, edge_at, node_of, source, target}
use Rattle.cpg_base.specs.declared.item.Item.TheVariants.{Message}
use Rattle.cpg_order.specs.Reach.{is_in, end_reach}
use Rattle.cpg_reach.specs.Walked.{send_by}
use Rattle.cpg_reach.proofs.Adding.{set_at}
use Rattle.cpg_reach.proofs.Sends.{no_edge, nothing_sent, within_node, message_sent}
use Rattle.cpg_reach.proofs.sending.message_of.Goals as goal
use Rattle.cpg_reach.proofs.sending.message_of.Goals.{then-ends, else-ends}

-- the edge is within a node, so nothing is sent
pub returns-then-node-node_of : goal.returns-then-node-node_of
returns-then-node-node_of c =
    let at : get_or c.edges.result.now c.args.edge no_edge ≡ edge_at c.args.problem.now c.args.edge =
    ap (λ es. get_or es c.args.edge no_edge) c.edges.ensures.edges in
    nothing_sent c.args.problem.now c.args.reaches.now c.args.sent.now c.none.result
    (send_by c.args.problem.now c.args.reaches.now c.args.sent.now (Message c.args.edge)) c.none.ensures
    (within_node c.args.problem.now c.args.reaches.now c.args.sent.now c.args.edge
    (ap (λ e. node_of c.args.problem.now e.from) (sym at) ∙ sym c.node_of-node.ensures.node ∙ c.if-node-node_of.true
    ∙ c.node_of.ensures.node ∙ ap (λ e. node_of c.args.problem.now e.to) at))

-- the edge is between nodes, so the message depends on what comes before its source's value, and on that value
pub returns : goal.returns
returns c =
    let at : get_or c.edges.result.now c.args.edge no_edge ≡ edge_at c.args.problem.now c.args.edge =
    ap (λ es. get_or es c.args.edge no_edge) c.edges.ensures.edges in
    -- the edge is between two nodes, and its source is a process of the graph
    let other : node_of c.args.problem.now (source c.args.problem.now c.args.edge)
    ≡ node_of c.args.problem.now (target c.args.problem.now c.args.edge) → ⊥ = λ e. c.if-node-node_of.false
    (c.node_of-node.ensures.node ∙ ap (λ e. node_of c.args.problem.now e.from) at ∙ e
    ∙ ap (λ e. node_of c.args.problem.now e.to) (sym at) ∙ sym c.node_of.ensures.node) in
    let inside : source c.args.problem.now c.args.edge < process_count c.args.problem.now =
    (c.edges.ensures.within.edges c.args.edge no_edge c.requires.edge).from in
    let from = ap (λ e. e.from) at in
    elim c.if-ends.branch [
      -- the message is frozen: it depends on what decides its source
      | then-ends w ↦ message_sent c.args.problem.now c.args.reaches.now c.args.sent.now c.args.edge true
          c.if-ends.reach c.add_source_value.new.reach other
          (ap (λ e. e.frozen) (sym at) ∙ w.if-ends.true)
          (λ v. ap (λ xs. is_in xs v) (w.reach-is ∙ w.copy-reach.ensures
          ∙ set_at c.args.deciding.now (get_or c.edges.result.now c.args.edge no_edge).from w.index-deciding-ends.result
          (omega (arith, from, c.requires.deciding.count)) w.index-deciding-ends.is
          ∙ ap (λ e. get_or c.args.deciding.now e.from []) at)
          ∙ c.requires.deciding.each (source c.args.problem.now c.args.edge) inside v)
          c.add_source_value.ensures
      -- it isn't frozen: it depends on the source's end and on what the node has sent
      | else-ends w ↦ message_sent c.args.problem.now c.args.reaches.now c.args.sent.now c.args.edge false
          c.if-ends.reach c.add_source_value.new.reach other
          (ap (λ e. e.frozen) (sym at) ∙ w.if-ends.false)
          (λ v. ap (λ xs. is_in xs v) w.reach-is ∙ w.after_end-reach.ensures v
          ∙ ap (λ n. is_in (end_reach c.args.reaches.now (get_or c.edges.result.now c.args.edge no_edge).from
          ++ get_or c.args.sent.now n []) v) c.node_of-node.ensures.node
          ∙ ap (λ e. is_in (end_reach c.args.reaches.now e.from
          ++ get_or c.args.sent.now (node_of c.args.problem.now e.from) []) v) at)
          c.add_source_value.ensures
    ]
