-- Proof of `SpacePair::close_above`: leaves the scenarios up to a cut, and returns the highs that it had.
use Rattle.cpg_tree_times.proofs.asked.SpacePair.close_above.Goals as goal

-- a scenario up to the cut stays in both spaces
pub returns-clause-lies : goal.returns-clause-lies
returns-clause-lies c = λ s d h. (c.close_above.ensures.lies s d.0 h, c.close_above-2.ensures.lies s d.1 h)
