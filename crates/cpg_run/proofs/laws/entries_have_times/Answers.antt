-- Proof of `entries_have_times`: the entries of an item can be merged, and have the times of the runs.
use Rattle.cpg_run.proofs.laws.entries_have_times.Goals as goal
use Rattle.cpg_run.proofs.EntriesMerge.{entries_have_times as law}

-- the lemma `entries_have_times` of `proofs/EntriesMerge` is the law
pub returns : goal.returns
returns c = law
