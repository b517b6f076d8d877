-- Proof of `Sieve::candidates`: places of a row's columns.
use Rattle.cpg_violation.proofs.sieve.Sieve.candidates.Goals as goal

-- by the sieve, the search finds the place of each column that matches where the cube does, and `meeting` keeps it
pub returns : goal.returns
returns c = λ s i inside matched cube_matched. (rw c.as_slice.ensures.value at c.in_ok-kept.ensures) s i
    (c.in_ok-search.ensures.all s i cube_matched (c.requires.found s i inside matched)) inside matched cube_matched
