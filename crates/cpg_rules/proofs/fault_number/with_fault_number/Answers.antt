-- Proof of `with_fault_number`: returns a copy of the graph that has this fault number in place of its own.
use Rattle.std.proofs.Common.{rules, ◌≡◌, ◌∙◌, None, IfSome, ap, subst, sym}
use Rattle.cpg_base.specs.Graph.{Graph, process_count}
use Rattle.cpg_base.specs.Limits.{IsOrderWithin}
use Rattle.cpg_rules.specs.FaultNumber.{with_fault_number}
use Rattle.cpg_rules.proofs.FaultNumbers.{limits_same, orderless_within, of_view}
use Rattle.cpg_rules.proofs.fault_number.with_fault_number.Goals as goal

-- the limits say nothing of the fault number but its own range, so the graph is within them
pub of-made-requires : goal.of-made-requires
of-made-requires c =
    -- the graph that is made, still without its order
    let g = c.args.problem.now in
    let made : Graph = record {
      faults = c.args.faults;
      deadline = c.deadline.result;
      nodes = c.in_ok-nodes.nodes.items;
      slots = c.in_ok-slots.slots.items;
      processes = c.in_ok-processes.processes.items;
      edges = c.in_ok-edges.edges.items;
      order = None;
    } in
    let is : made ≡ record (with_fault_number g c.args.faults) { order = None } = search rules in
    rw is (orderless_within (with_fault_number g c.args.faults)
    (limits_same g c.args.faults c.nodes.ensures.within c.requires))

-- the order of the old graph suits the new one, which has as many processes
pub with_order-requires : goal.with_order-requires
with_order-requires c =
    -- the graph that is made, still without its order, has as many processes
    let g = c.args.problem.now in
    let made : Graph = record {
      faults = c.args.faults;
      deadline = c.deadline.result;
      nodes = c.in_ok-nodes.nodes.items;
      slots = c.in_ok-slots.slots.items;
      processes = c.in_ok-processes.processes.items;
      edges = c.in_ok-edges.edges.items;
      order = None;
    } in
    let is : made ≡ record (with_fault_number g c.args.faults) { order = None } = search rules in
    let count : process_count c.of-made.result ≡ process_count g = ap process_count (c.of-made.ensures ∙ is) in
    subst (λ n. IfSome c.in_ok-order.order (λ list. IsOrderWithin n list.items)) (sym count)
    (of_view (λ list. list.items) (IsOrderWithin (process_count g)) c.in_ok-order.order g.order c.in_ok-order.ensures
    c.nodes.ensures.within.order)
