-- Loops of `own_ended`: a mark for each variable, by number: whether its process is on an item's node and is known to
-- have ended by the item's columns.
use Rattle.std.proofs.Common.{◌≡◌, List, length, true}
use Rattle.cpg_table.specs.Table.{NodeTable}
use Rattle.cpg_table.specs.declared.rule.Rule.{Rule}
use Rattle.cpg_violation.specs.Sure.{IsSure}
use Rattle.cpg_violation.specs.Violation.{AllHold, row_rules}
use Rattle.cpg_check_quick.specs.Hearing.{AreOwnEnded}
use Rattle.cpg_check_quick.specs.Order.{execution}
use Rattle.cpg_check_quick.specs.Sequences.{AreSequences}
use Rattle.cpg_check_quick.proofs.listening.own_ended.Given as goal

-- `long`: there is a mark for each of the 256 numbers of a byte. `ended`: each variable that is marked is of a process
-- on the item's node that has always ended by the item's columns.
abbrev pub invariant-loop-variable : goal.invariant-loop-variable
invariant-loop-variable l = record {
  long : length l.known ≡ 256;
  ended : (tables : List NodeTable) → AreSequences (execution l.admitted.graph) l.admitted.graph tables l.sequences →
      AllHold l.admitted.graph tables row_rules →
      (l.is_sent_in_time ≡ true → IsSure l.admitted.graph tables Rule.Inputs l.item) →
      AreOwnEnded l.admitted.graph tables l.item l.known;
}
