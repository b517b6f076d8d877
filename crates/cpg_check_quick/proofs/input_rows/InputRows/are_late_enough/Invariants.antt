-- Loops of `InputRows::are_late_enough`: whether each of these columns is no earlier than a release, and each of these
-- inputs is there by then wherever the column matches and the input is live.
use Rattle.std.proofs.Common.{List, All, take}
use Rattle.cpg_table.specs.Table.{NodeTable}
use Rattle.cpg_violation.specs.Violation.{AllHold, row_rules}
use Rattle.cpg_check_quick.specs.Inputs.{IsLateEnough, AreInputRows}
use Rattle.cpg_check_quick.proofs.input_rows.InputRows.are_late_enough.Given as goal

-- each column so far is no earlier than the release, and the inputs are there by then
abbrev pub invariant-loop-column : goal.invariant-loop-column
invariant-loop-column l = (tables : List NodeTable) → AreInputRows l.self.admitted.now.graph tables l.self →
    AllHold l.self.admitted.now.graph tables row_rules →
    All (IsLateEnough l.self.admitted.now.graph tables l.edges l.release) (take l.column-index l.columns)
