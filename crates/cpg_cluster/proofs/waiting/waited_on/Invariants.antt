-- Loops of `waited_on`, which returns the least number of a member that a member waits on before it takes an
-- instant, or `None` if it waits on none.
use Rattle.std.proofs.Common.{false, ◌≡◌, ◌<◌, ℕ, get_or}
use Rattle.cpg_cluster.specs.declared.member.Member.{Member}
use Rattle.cpg_cluster.specs.Keeping.{waits_between}
use Rattle.cpg_cluster.proofs.waiting.waited_on.Given as goal

-- `other` is the number of the next sender, and the member waits on no sender before it
abbrev pub invariant-loop-sender : goal.invariant-loop-sender
invariant-loop-sender l = record {
  other : l.other ≡ l.sender-index;
  none : (j : ℕ) (d : Member) → j < l.sender-index → waits_between l.time l.member j (get_or l.members j d) ≡ false;
}
