-- Proof of `are_slots_apart`: whether no two slots belong to one node.
use Rattle.std.proofs.Common.{sym}
use Rattle.cpg_base.proofs.Apart.{slots_apart}
use Rattle.cpg_base.proofs.limits.are_slots_apart.Goals as goal

-- the recursion compares the nodes of each two slots
pub returns : goal.returns
returns c = slots_apart c.slots_differ.result c.args.slots.now (sym c.slots_differ.ensures)
