-- Proof of `runs_are_no_later`: a run with at most n faults is no later than the latest times of its outcome with n faults.
use Rattle.cpg_latest.proofs.runs_are_no_later.Goals as goal
use Rattle.cpg_latest.proofs.Above.{no_later}

-- the lemma `no_later` is the law
pub returns : goal.returns
returns c = λ g order frozen s t late n topological lawful run are h few.
    no_later g order frozen s t late topological run are n h few
