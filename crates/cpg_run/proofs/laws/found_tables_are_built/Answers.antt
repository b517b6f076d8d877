-- Proof of `found_tables_are_built`: the tables of rows that are found, with the greatest finish and excess of the
-- runs, are what a builder answers.
use Rattle.cpg_run.proofs.laws.found_tables_are_built.Goals as goal
use Rattle.cpg_run.proofs.BuiltTables.{found_tables_are_built as law}

-- the lemma `found_tables_are_built` of `proofs/BuiltTables` is the law
pub returns : goal.returns
returns c = law
