-- Loops of `processor_marks`: a mark for each item, by number: whether V6 is known to hold there.
use Rattle.std.proofs.Common.{◌≡◌, List, length}
use Rattle.cpg_table.specs.Table.{NodeTable}
use Rattle.cpg_table.specs.declared.rule.Rule.{Rule}
use Rattle.cpg_violation.specs.Sure.{AreSure}
use Rattle.cpg_check_quick.specs.Order.{execution}
use Rattle.cpg_check_quick.specs.Sequences.{AreSequences}
use Rattle.cpg_check_quick.proofs.processor.processor_marks.Given as goal

-- `long`: there is a mark for each item so far. `sure`: V6 is sure at each that is marked, if the sequences are of
-- these tables.
abbrev pub invariant-loop-item : goal.invariant-loop-item
invariant-loop-item l = record {
  long : length l.marks.items ≡ l.item;
  sure : (tables : List NodeTable) → AreSequences (execution l.problem) l.problem tables l.sequences →
      AreSure l.problem tables Rule.Processor l.marks.items;
}
