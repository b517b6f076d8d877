-- Proof of `tables_exist`: under an order in which no item is too wide by its views an admitted graph has rows that a
-- builder finds, and tables of them within the limits.
use Rattle.cpg_built_laws.proofs.TablesExist.{tables_exist as law}
use Rattle.cpg_built_laws.proofs.tables_exist.Goals as goal

-- the lemma `law` is the promise as it is
pub returns : goal.returns
returns c = law
