-- Rows that were taken from bytes at once.
use Rattle.std.proofs.Common.{◌≡◌, ℕ, ◌+◌, ◌≤◌, List, ◌++◌, length, Ok, ap, ◌∙◌}
use Rattle.cpg_table.specs.Table.{Row}
use Rattle.cpg_table.specs.Lawful.{IsLawfulRow}
use Rattle.cpg_table.specs.declared.space.VariableSpace.{VariableSpace}
use Rattle.cpg_codec.specs.Spelling.{row_bytes}
use Rattle.cpg_codec.specs.Grammar.{IsSpace, most, read_row}
use Rattle.cpg_codec.proofs.TableFields.{row_reads}

-- if bytes begin with the spelling of a lawful row of the item, which doesn't bring too many columns, the grammar reads just
-- it
pub row_taken : (s : VariableSpace) (item columns_read : ℕ) (r : Row) (bytes rest : List ℕ) → IsSpace s → columns_read ≤ most →
    r.item ≡ item → IsLawfulRow s r →
    columns_read + length r.columns ≤ most →
    bytes ≡ row_bytes r ++ rest
    → read_row s item columns_read bytes ≡ Ok (r, rest)
row_taken s item columns_read r bytes rest is_space le same lawful few e =
    ap (read_row s item columns_read) e
    ∙ (row_reads s item columns_read is_space le).again r rest (record { item_is = same; lawful = lawful; room = few })
