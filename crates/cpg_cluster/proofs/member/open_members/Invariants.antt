-- Loops of `open_members`, which returns the nodes of the tables, by number, before their first turns.
use Rattle.std.proofs.Common.{◌≡◌, ◌≤◌, drop}
use Rattle.cpg_cluster.specs.Keeping.{AreOpen}
use Rattle.cpg_cluster.proofs.member.open_members.Given as goal

-- `opened`: the nodes below the next number are before their first turns, with their tables. `left`: the tables that
-- are left are those from this number on. `few`, `end`: this number is at most the count of nodes, at which the numbers
-- end.
abbrev pub invariant-loop-number : goal.invariant-loop-number
invariant-loop-number l = record {
  opened : AreOpen l.problem l.fn.tables.nodes l.number-iterator.a.start l.members.items;
  left : drop l.number-iterator.a.start l.fn.tables.nodes ≡ l.number-iterator.b.rest.items;
  few : l.number-iterator.a.start ≤ l.number-iterator.a.end;
  end : l.number-iterator.a.end ≡ l.count;
}
