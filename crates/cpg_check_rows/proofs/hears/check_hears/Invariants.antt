-- Loops of `check_hears`: the first violation of V10: the least item that some node hears by other columns than the
-- sender's, each later by the sender's slot, with the first column that differs at the least such node, and the
-- scenario without faults in which every value is false.
use Rattle.std.proofs.Common.{ℕ, ◌<◌}
use Rattle.cpg_check_rows.specs.Hears.{IsHeardWell}
use Rattle.cpg_check_rows.proofs.hears.check_hears.Given as goal

-- each node that hears an item so far hears it by the columns that are due
abbrev pub invariant-loop-item : goal.invariant-loop-item
invariant-loop-item l = (x : ℕ) → x < l.item → IsHeardWell l.admitted.graph l.tables.nodes x
