-- Proof of `is_forward`: whether each edge leads from an earlier place in the order to a later one.
use Rattle.std.proofs.Common.{◌≡◌, ◌<◌, sym, ap, subst, refl, true, true≢false, length, inl, inr, arith}
use Rattle.std.proofs.lemmas.Bool.{cases_eq}
use Rattle.cpg_base.specs.Graph.{source, target, edge_count, process_count}
use Rattle.cpg_base.proofs.Lists.{numbers-Contains, Contains-numbers}
use Rattle.cpg_base.specs.Order.{comes_before}
use Rattle.cpg_order.proofs.ListChecks.{comes_before_at, not_before_at}
use Rattle.cpg_order.proofs.lists.is_forward.Goals as goal

-- this edge doesn't lead to a later place
pub returns-then-place : goal.returns-then-place
returns-then-place c =
    -- this edge is one of the graph, with its two places in the order
    let inside : c.loop-edge.edge-index < edge_count c.args.problem.now =
    omega (arith, ap length c.edges-edge-items.ensures.edges) in
    let from = rw c.edges-edge-items.ensures.edges at c.place.ensures.place in
    let to = rw c.edges-edge-items.ensures.edges at c.place-in-loop-edge.ensures.place in (
      λ holds. absurd (true≢false (sym holds)),
      λ all. absurd (not_before_at c.args.order.now (source c.args.problem.now c.loop-edge.edge-index)
          (target c.args.problem.now c.loop-edge.edge-index)
          c.place.result c.place-in-loop-edge.result from to c.if-place.true
          (all c.loop-edge.edge-index (Contains-numbers
          (edge_count c.args.problem.now) c.loop-edge.edge-index inside))),
    )

-- this edge leads to a later place, and so do those before it
pub loop-edge-preserved : goal.loop-edge-preserved
loop-edge-preserved c e so_far =
    -- this edge is one of the graph, with its two places in the order
    let edge_inside : c.loop-edge.edge-index < edge_count c.args.problem.now =
    omega (arith, ap length c.edges-edge-items.ensures.edges) in
    let from = rw c.edges-edge-items.ensures.edges at c.place.ensures.place in
    let to = rw c.edges-edge-items.ensures.edges at c.place-in-loop-edge.ensures.place in
    let from_within : source c.args.problem.now c.loop-edge.edge-index < process_count c.args.problem.now =
    (c.edges-edge-items.ensures.within.edges c.loop-edge.edge-index _ edge_inside).from in
    let inside : source c.args.problem.now c.loop-edge.edge-index < length c.args.order.now = omega arith in
    elim (cases_eq e c.loop-edge.edge-index) [
      -- this edge: its source was found at an earlier place
      | inl is ↦
          subst (λ k. comes_before c.args.order.now (source c.args.problem.now k) (target c.args.problem.now k) ≡ true)
          (sym is)
          (comes_before_at c.args.order.now c.place.ensures.order (source c.args.problem.now c.loop-edge.edge-index)
          (target c.args.problem.now c.loop-edge.edge-index) c.place.result c.place-in-loop-edge.result
          inside from to c.if-place.false)
      -- an earlier edge: the invariant says so already
      | inr is_other ↦ c.loop-edge.invariant e (omega arith)
    ]

-- all edges have been visited, and each leads to a later place
pub returns : goal.returns
returns c = (
  λ holds e listed. c.loop-edge.invariant e
      (omega (
        arith,
        numbers-Contains
            (edge_count c.args.problem.now) e listed,
        ap length c.edges-edge-items.ensures.edges,
      )),
  λ all. refl,
)
