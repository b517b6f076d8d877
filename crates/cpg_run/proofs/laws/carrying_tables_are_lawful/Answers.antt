-- Proof of `carrying_tables_are_lawful`: tables whose columns say no more than is carried beside their times are exact
-- and keep the rules.
use Rattle.cpg_run.proofs.laws.carrying_tables_are_lawful.Goals as goal
use Rattle.cpg_run.proofs.CarryingTables.{carrying_tables_are_lawful as law}

-- the lemma `carrying_tables_are_lawful` of `proofs/CarryingTables` is the law
pub returns : goal.returns
returns c = law
