-- Proof of `are_processes_apart`: whether no two processes have one name.
use Rattle.std.proofs.Common.{sym}
use Rattle.cpg_base.proofs.Apart.{processes_apart}
use Rattle.cpg_base.proofs.limits.are_processes_apart.Goals as goal

-- the recursion compares the bytes of each two processes' names
pub returns : goal.returns
returns c = processes_apart c.processes_differ.result c.args.processes.now (sym c.processes_differ.ensures)
