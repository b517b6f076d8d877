-- The rows of what inputs come by.
use Rattle.std.proofs.Common.{ℕ, List}
use Rattle.cpg_base.specs.Graph.{Graph, message_item, source}
use Rattle.cpg_base.specs.Scenario.{Scenario}
use Rattle.cpg_table.specs.Table.{NodeTable}
use Rattle.cpg_check_quick.specs.SpannedRows.{IsSpannedRow}
use Rattle.cpg_check_quick.specs.Inputs.{IsInputRow, IsInputOver}
use Rattle.cpg_check_quick.specs.Order.{IsOverBy, execution, frame}
use Rattle.cpg_check_quick.specs.declared.spanned_rows.SpannedRow.{SpannedRow}

-- if the item `x` of the row is over by the time, whichever it is, what input `e` comes by is over
pub input_over : {g : Graph} {tables : List NodeTable} {e : ℕ} {row : SpannedRow} → IsInputRow g tables e row →
    (time : ℕ) (s : Scenario)
    → ((lasts : Scenario → ℕ) (x : ℕ) → IsSpannedRow g tables lasts x row → IsOverBy tables (lasts s) x time s) →
    IsInputOver g tables e time s
input_over {g = g} {e = e} of time s over =
    record {
      message = λ m. over (frame g (message_item g e)) (message_item g e) (of.message m);
      source = λ m. over (execution g (source g e)) (source g e) (of.source m);
    }
