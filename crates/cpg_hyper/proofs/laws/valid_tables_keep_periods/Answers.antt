-- Proof of `valid_tables_keep_periods`: in valid tables each execution in an instance starts at its release or later
-- and ends by its due, both counted from the beginning of the instance.
use Rattle.cpg_hyper.proofs.Keeping.{keep_periods}
use Rattle.cpg_hyper.proofs.laws.valid_tables_keep_periods.Goals as goal

-- a start in an instance is at its release or later, and its end comes by its due, by proofs/Keeping.antt
pub returns : goal.returns
returns c = keep_periods
