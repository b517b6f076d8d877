-- Proof of `open_member`, which returns node `number` before its first turn, with all the room that it needs for a
-- play.
use Rattle.std.proofs.Common.{ℕ, List, length, subst, ◌∙◌, ap, map, rules}
use Rattle.cpg_base.specs.Graph.{home}
use Rattle.cpg_table.specs.Table.{Row}
use Rattle.cpg_cluster.specs.Keeping.{AreIndexed}
use Rattle.cpg_cluster.proofs.member.open_member.Goals as goal

-- The senders and arrivals are those of the table's hear rows. Nothing is done yet, and the room that was reserved is
-- that for the table's rows.
pub returns : goal.returns
returns c = record {
  -- the node, and what it keeps of the graph
  node = search rules;
  senders = c.in_ok-senders.ensures ∙ ap (map (λ (row : Row). home c.args.problem.now row.item)) c.hears.ensures.hears;
  slot = search rules;
  arrivals = subst (λ hs. AreIndexed hs c.in_ok-senders.senders.items
      (length c.args.problem.now.nodes) c.in_ok-arrivals.arrivals.items) c.hears-2.ensures.hears
      (subst
      (λ ss. AreIndexed c.hears-2.result.now ss (length c.args.problem.now.nodes) c.in_ok-arrivals.arrivals.items)
      c.as_slice.ensures.value
      (subst (λ (ns : List (List ℕ)). AreIndexed c.hears-2.result.now c.as_slice.result.now
      (length ns) c.in_ok-arrivals.arrivals.items) c.nodes.ensures.nodes c.in_ok-arrivals.ensures));
  -- nothing is done yet
  acts = search rules;
  noted = search rules;
  ends = search rules;
  reports = search rules;
  -- there is the room that was reserved
  acts_room = search rules;
  ends_room = search rules;
  reports_room = search rules;
}
