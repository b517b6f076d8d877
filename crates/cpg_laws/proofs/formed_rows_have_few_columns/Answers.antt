-- Proof of `formed_rows_have_few_columns`: in tables that keep V1 and V2, a formed row has at most as many columns as
-- the variables that it depends on have views.
use Rattle.cpg_laws.proofs.Rows.{formed_rows_have_few_columns as law}
use Rattle.cpg_laws.proofs.formed_rows_have_few_columns.Goals as goal

-- by V1 and V2 each scenario has one column at most, so there are no more columns than views; by proofs/Rows.antt
pub returns : goal.returns
returns c = law
