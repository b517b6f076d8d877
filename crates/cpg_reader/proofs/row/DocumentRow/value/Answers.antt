-- Proof of `DocumentRow::value`, which returns the value at a key, or `None` if the table hasn't the key.
use Rattle.toml.proofs.Views.{table_get}
use Rattle.cpg_reader.proofs.row.DocumentRow.value.Goals as goal

-- a lookup in the table gives what `get_member` finds in its view
pub returns : goal.returns
returns c = rw (← c.text.ensures)
    (table_get c.get.result c.text.result.now c.args.self.now.members.now.entries c.get.ensures.value)
