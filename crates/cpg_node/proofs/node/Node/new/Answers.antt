-- Proof of `Node::new`: the node of a table before its first turn.
use Rattle.std.proofs.Common.{sym, subst, None, refl, rules}
use Rattle.std.proofs.lemmas.List.Elements.{All-replicate}
use Rattle.cpg_node.specs.Plan.{Planned}
use Rattle.cpg_node.specs.State.{IsTimed, AreTimed}
use Rattle.cpg_node.proofs.Turning.{place_open, next_open}
use Rattle.cpg_node.proofs.TableBounds.{plan_early}
use Rattle.cpg_node.proofs.node.Node.new.Goals as goal

-- nothing runs, all entries and times are left, the next instant is 0, and the room is what was asked for
pub invariant_of-result : goal.invariant_of-result
invariant_of-result c = record {
  made = c.own.ensures.made;
  count = search rules;
  mirror = search rules;
  starts = subst AreTimed (sym (c.in_ok-running.ensures.items_if_clones_equal (search rules)))
      (All-replicate IsTimed _ None tt);
  planned = c.in_ok-plan.ensures.same;
  early = plan_early c.args.table c.own.ensures.made c.in_ok-plan.plan.items c.in_ok-plan.ensures.same;
  entries = place_open (λ (p : Planned). p.time) c.in_ok-plan.plan.items c.in_ok-plan.ensures.rises;
  times = c.in_ok-times.ensures.same;
  instants = place_open (λ t. t) c.in_ok-times.times.items c.in_ok-times.ensures.rises;
  next = next_open
      (record { table = c.args.table; heard = c.in_ok-heard.heard.items; running = c.in_ok-running.running.items; last = None }) refl;
  room = search rules;
  due_room = search rules;
}
