-- Proof of `retuned`: returns a copy of the graph with another fault number, and each process cut into the number of
-- parts at its place.
use Rattle.std.proofs.Common.{rules, ◌≡◌, ◌∙◌, None, IfSome, ap, subst, sym}
use Rattle.cpg_base.specs.Graph.{Graph, process_count}
use Rattle.cpg_base.specs.Limits.{IsOrderWithin}
use Rattle.cpg_rules.proofs.FaultNumbers.{orderless_within, of_view}
use Rattle.cpg_tune.specs.Retuned.{retuned}
use Rattle.cpg_tune.proofs.AsBefore.{retuned_within}
use Rattle.cpg_tune.proofs.retuning.retuned.Goals as goal

-- the retuned graph without its order is within the limits
pub of-retuned-requires : goal.of-retuned-requires
of-retuned-requires c =
    -- the retuned graph, still without its order
    let made : Graph = record {
      faults = c.args.faults;
      deadline = c.deadline.result;
      nodes = c.in_ok-nodes.nodes.items;
      slots = c.in_ok-slots.slots.items;
      processes =
          c.in_ok-processes.processes.items;
      edges = c.in_ok-edges.edges.items;
      order = None;
    } in
    let is : made ≡ record (retuned c.args.problem.now c.args.parts.now c.args.faults) { order = None } =
    search rules in
    -- with its order it would be within the limits, so without it too
    let whole = retuned_within c.args.problem.now c.args.parts.now c.args.faults c.nodes.ensures.within c.requires.parts
    c.requires.faults in
    rw is (orderless_within (retuned c.args.problem.now c.args.parts.now c.args.faults) whole)

-- the order of the graph fits the retuned graph, which has as many processes
pub with_order-requires : goal.with_order-requires
with_order-requires c =
    -- the retuned graph, still without its order
    let graph = c.args.problem.now in
    let made : Graph = record {
      faults = c.args.faults;
      deadline = c.deadline.result;
      nodes = c.in_ok-nodes.nodes.items;
      slots = c.in_ok-slots.slots.items;
      processes =
          c.in_ok-processes.processes.items;
      edges = c.in_ok-edges.edges.items;
      order = None;
    } in
    let is : made ≡ record (retuned graph c.args.parts.now c.args.faults) { order = None } = search rules in
    let count : process_count c.of-retuned.result ≡ process_count (retuned graph c.args.parts.now c.args.faults) =
    ap process_count (c.of-retuned.ensures ∙ is) in
    -- the order fits as many processes as before
    let whole =
    retuned_within graph c.args.parts.now c.args.faults c.nodes.ensures.within c.requires.parts c.requires.faults in
    subst (λ n. IfSome c.in_ok-order.order (λ list. IsOrderWithin n list.items)) (sym count)
    (of_view (λ list. list.items) (IsOrderWithin (process_count (retuned graph c.args.parts.now c.args.faults)))
    c.in_ok-order.order graph.order c.in_ok-order.ensures whole.order)
