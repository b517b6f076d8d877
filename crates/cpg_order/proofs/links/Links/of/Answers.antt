-- Proof of `Links::of`: returns the links of a graph.
use Rattle.std.proofs.Common.{ℕ, List, ◌≡◌, ◌∙◌, refl, ap, length, map, arith, None, false}
use Rattle.cpg_base.specs.Numbers.{numbers_below}
use Rattle.cpg_base.specs.Graph.{process_count, edge_count, inputs, outputs, source, target}
use Rattle.cpg_order.specs.Links.{EdgeLists}
use Rattle.cpg_order.proofs.Filing.{with_key, file_next, length_filed}
use Rattle.cpg_order.proofs.links.Links.of.Goals as goal

-- the target of an edge has a list
pub index_mut-requires : goal.index_mut-requires
index_mut-requires c =
    let long = length_filed (target c.args.problem.now) c.loop-number.number
    (process_count c.args.problem.now) c.loop-number.inputs.items c.loop-number.invariant.inputs in
    let to = (c.edges-edge-items.ensures.within.edges c.loop-number.number
    (record { from = 0; to = 0; size = 0; when = None; frozen = false }) (omega (
      arith,
      ap length c.edges-edge-items.ensures.edges,
    ))).to in
    rw c.edges-edge-items.ensures.edges (omega arith)

-- the source of an edge has a list
pub index_mut-requires-in-loop-number : goal.index_mut-requires-in-loop-number
index_mut-requires-in-loop-number c =
    let long = length_filed (source c.args.problem.now) c.loop-number.number
    (process_count c.args.problem.now) c.loop-number.outputs.items c.loop-number.invariant.outputs in
    let from = (c.edges-edge-items.ensures.within.edges c.loop-number.number
    (record { from = 0; to = 0; size = 0; when = None; frozen = false })
    (omega (arith, ap length c.edges-edge-items.ensures.edges))).from in
    rw c.edges-edge-items.ensures.edges (omega arith)

-- one more edge is filed: at its target as an input, and at its source as an output
pub loop-number-preserved : goal.loop-number-preserved
loop-number-preserved c =
    -- both ends of the edge are processes of the graph
    let ends = c.edges-edge-items.ensures.within.edges c.loop-number.number
    (record { from = 0; to = 0; size = 0; when = None; frozen = false })
    (omega (arith, ap length c.edges-edge-items.ensures.edges)) in
    record {
      inputs = rw c.edges-edge-items.ensures.edges (file_next (target c.args.problem.now) c.loop-number.number
          (process_count c.args.problem.now) (target c.args.problem.now c.loop-number.number) c.loop-number.inputs.items
          c.index_mut.result.now c.push.new.self refl ends.to c.loop-number.invariant.inputs
          (rw c.edges-edge-items.ensures.edges at c.index_mut.ensures.value) c.in_ok-push.ensures);
      outputs = rw c.edges-edge-items.ensures.edges (file_next (source c.args.problem.now) c.loop-number.number
          (process_count c.args.problem.now) (source c.args.problem.now c.loop-number.number) c.loop-number.outputs.items
          c.index_mut-in-loop-number.result.now c.push-in-loop-number.new.self refl ends.from c.loop-number.invariant.outputs
          (rw c.edges-edge-items.ensures.edges at c.index_mut-in-loop-number.ensures.value) c.in_ok-push-2.ensures);
    }

-- edge lists with the same count, inputs and outputs are the same
same_lists : (n m : ℕ) (xs us ys vs : List (List ℕ)) → n ≡ m → xs ≡ us → ys ≡ vs →
    (let l : EdgeLists = record { count = n; inputs = xs; outputs = ys } in l) ≡ record
    { count = m; inputs = us; outputs = vs }
same_lists n m xs us ys vs p q r = cc

-- all edges are filed, so the lists are those of the graph
pub returns : goal.returns
returns c =
    -- the loop has visited all edges
    let all : c.loop-number.number ≡ edge_count c.args.problem.now = omega (arith, ap length c.edges-edge-items.ensures.edges) in
    same_lists (length c.loop-number.inputs.items) (process_count c.args.problem.now) c.loop-number.inputs.items
    (map (inputs c.args.problem.now) (numbers_below (process_count c.args.problem.now)))
    c.loop-number.outputs.items (map (outputs c.args.problem.now) (numbers_below (process_count c.args.problem.now)))
    (length_filed (target c.args.problem.now) c.loop-number.number
    (process_count c.args.problem.now) c.loop-number.inputs.items c.loop-number.invariant.inputs)
    (c.loop-number.invariant.inputs
    ∙ ap (λ e. map (with_key (target c.args.problem.now) e) (numbers_below (process_count c.args.problem.now))) all)
    (c.loop-number.invariant.outputs
    ∙ ap (λ e. map (with_key (source c.args.problem.now) e) (numbers_below (process_count c.args.problem.now))) all)
