-- Rows of items, and which of them follow one another on each node.
use Rattle.std.specs.Prelude.{ℕ, List, All}
use Rattle.cpg_base.specs.Graph.{Graph}
use Rattle.cpg_base.specs.Scenario.{Scenario}
use Rattle.cpg_table.specs.Table.{NodeTable}
use Rattle.cpg_check_quick.specs.SpannedRows.{AreSpannedRows}
use Rattle.cpg_check_quick.specs.Order.{IsInSequence}
use Rattle.cpg_check_quick.specs.declared.sequences.Sequences.{Sequences}

-- the rows of the first items, and for each node a list of items each of which is over before each later one begins
pub record AreSequences (lasts : ℕ → Scenario → ℕ) (g : Graph) (tables : List NodeTable)
    (sequences : Sequences) : Type 0 where
  -- each item lasts as long as `lasts` says
  pub rows : AreSpannedRows lasts g tables sequences.rows
  -- in each list, every item is over before each later one begins
  pub orders : All (λ order. IsInSequence lasts g tables order.items) sequences.orders.items
