-- Loops of `SpannedRows::orders`: for each of these groups of items an order in which each item is over before
-- each later one; empty if none is known.
use Rattle.std.proofs.Common.{ℕ, List, All}
use Rattle.cpg_base.specs.Graph.{Graph}
use Rattle.cpg_base.specs.Scenario.{Scenario}
use Rattle.cpg_table.specs.Table.{NodeTable}
use Rattle.cpg_table.specs.declared.rule.Rule.{Rule}
use Rattle.cpg_violation.specs.Violation.{Holds}
use Rattle.cpg_check_quick.specs.SpannedRows.{AreSpannedRows}
use Rattle.cpg_check_quick.specs.Order.{IsInSequence}
use Rattle.cpg_check_quick.proofs.spanned_rows.SpannedRows.orders.Given as goal

-- if V3 holds, each order so far is in sequence: each of its items is over before each later one
abbrev pub invariant-loop-group : goal.invariant-loop-group
invariant-loop-group l = (g : Graph) (tables : List NodeTable) (lasts : ℕ → Scenario → ℕ) →
    AreSpannedRows lasts g tables l.self → Holds g tables Rule.Present →
    All (λ order. IsInSequence lasts g tables order.items) l.orders.items
