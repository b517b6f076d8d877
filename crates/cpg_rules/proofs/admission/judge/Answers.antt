-- Proof of `judge`: judges a graph by all rules.
use Rattle.cpg_base.proofs.Within.{well_formed}
use Rattle.cpg_rules.proofs.admission.judge.Goals as goal

-- each check has shown its rule; the graph is well-formed since it is within its limits and its senders have slots
pub returns-clause-admitted : goal.returns-clause-admitted
returns-clause-admitted c = record {
  limits = c.in_ok-check_slots.ensures.limits;
  well_formed = well_formed c.args.problem.now c.in_ok-check_slots.ensures.limits c.in_ok-check_slots.ensures.slots;
  urgency = c.in_ok-order.ensures.order.urgency;
  topological = c.in_ok-order.ensures.order.topological;
  tracks = c.in_ok-shared.ensures.tracks.few;
  guards = c.in_ok-shared.ensures.guards;
  joins = c.in_ok-check_joins.ensures.joins.joins;
  slots = c.in_ok-check_slots.ensures.slots;
  sizes = c.in_ok-check_slots.ensures.sizes;
  given = c.in_ok-given.ensures.topological;
}
