-- Proof of `is_early`: whether a process stands before the source of one of its inputs.
use Rattle.std.proofs.Common.{◌≡◌, ◌<◌, false, length, arith, sym, ap, subst, inl, inr}
use Rattle.std.proofs.lemmas.Bool.{cases_eq, false_from_ne_true}
use Rattle.cpg_base.specs.Graph.{edge_count, source, target}
use Rattle.cpg_base.specs.Order.{comes_before}
use Rattle.cpg_order.proofs.ListChecks.{comes_before_at, not_before_at}
use Rattle.cpg_rules.proofs.GivenOrders.{early_by, early_by_none}
use Rattle.cpg_rules.proofs.given.is_early.Goals as goal
use Rattle.cpg_rules.proofs.given.is_early.Goals.{then-edge-process+else-place, else-edge-process}

-- this edge leads to the process from one that stands later
pub returns-then-place : goal.returns-then-place
returns-then-place c =
    let g = c.args.problem.now in
    let edge = c.loop-edge.edge-index in
    let edge_below : edge < edge_count g = omega (arith, ap length c.edges-edge-items.ensures.edges) in
    let at = rw c.edges-edge-items.ensures.edges at c.if-edge-process.true in
    -- the place of the source, and that the process has one
    let from = rw c.edges-edge-items.ensures.edges at c.place.ensures.place in
    let inside : c.args.process < length c.args.order.now = omega (arith, c.requires.process, c.requires.order) in
    sym (early_by g c.args.order.now c.args.process edge edge_below at
    (comes_before_at c.args.order.now c.place-place.ensures.order c.args.process
    (source g edge) c.place-place.result c.place.result inside c.place-place.ensures.place from c.if-place.true))

-- this edge doesn't show that the process is early, and neither do those before it
pub loop-edge-preserved : goal.loop-edge-preserved
loop-edge-preserved c e before_next at =
    let g = c.args.problem.now in
    let here = c.loop-edge.edge-index in
    elim c.if-edge-process.branch [
      -- an edge that leads to the process
      | then-edge-process+else-place leads_here ↦ elim (cases_eq e here) [
        -- it is the edge asked for: its source doesn't come after the process
        | inl same ↦
            let from = rw c.edges-edge-items.ensures.edges at leads_here.place.ensures.place in
            subst (λ f. comes_before c.args.order.now c.args.process (source g f) ≡ false) (sym same)
            (false_from_ne_true (comes_before c.args.order.now c.args.process (source g here))
            (not_before_at c.args.order.now c.args.process
            (source g here) c.place-place.result leads_here.place.result c.place-place.ensures.place from
            leads_here.if-place.false))
        -- an earlier edge: the invariant says so already
        | inr other ↦ c.loop-edge.invariant e (omega (arith, before_next, other)) at
      ]
      -- the edge leads to another process
      | else-edge-process leads_elsewhere ↦ elim (cases_eq e here) [
        -- it can't be the edge that is asked for
        | inl same ↦
            let apart = rw c.edges-edge-items.ensures.edges at leads_elsewhere.if-edge-process.false in
            absurd (apart (subst (λ f. target g f ≡ c.args.process) same at))
        -- an earlier edge: the invariant says so already
        | inr other ↦ c.loop-edge.invariant e (omega (arith, before_next, other)) at
      ]
    ]

-- no edge leads to the process from one that stands later
pub returns : goal.returns
returns c =
    let done = c.loop-edge-test.false in
    sym (early_by_none c.args.problem.now c.args.order.now c.args.process
    (λ e l at. c.loop-edge.invariant e (omega (arith, l, done, ap length c.edges-edge-items.ensures.edges)) at))
