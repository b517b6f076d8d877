-- Loops of `most_heard`, which returns the greatest number of hear rows that a node has, or 0 if there are no nodes.
use Rattle.std.proofs.Common.{◌≤◌, ◌<◌, ℕ, length, get_or}
use Rattle.cpg_cluster.specs.declared.member.Member.{Member}
use Rattle.cpg_cluster.proofs.member.most_heard.Given as goal

-- no member so far has more hear rows than `most`
abbrev pub invariant-loop-member : goal.invariant-loop-member
invariant-loop-member l =
    (i : ℕ) (d : Member) → i < l.member-index → length (get_or l.members i d).node.dispatcher.table.hears ≤ l.most
