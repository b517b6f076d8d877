-- Proof of `value_at`, which returns what a table has at a key, or `None` if it hasn't the key.
use Rattle.toml.proofs.Views.{table_get}
use Rattle.cpg_scenario.proofs.entries.value_at.Goals as goal

-- a lookup in the table gives what `get_member` finds in its view
pub returns : goal.returns
returns c = table_get c.get.result c.args.key.now c.args.table.now.entries c.get.ensures.value
