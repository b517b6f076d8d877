-- Proof of `are_names_apart`: whether no two names are equal.
use Rattle.std.proofs.Common.{sym}
use Rattle.cpg_base.proofs.Apart.{names_apart}
use Rattle.cpg_base.proofs.limits.are_names_apart.Goals as goal

-- the recursion compares the bytes of each two names, and these are equal if no byte differs
pub returns : goal.returns
returns c = names_apart c.names_differ.result c.args.names.now (sym c.names_differ.ensures)
