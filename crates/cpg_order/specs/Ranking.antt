-- Processes ranked by their tails: the longest ways from their starts to an end.
use Rattle.std.specs.Prelude.{ℕ, Bool, ◌&&◌, ◌||◌, ◌==◌, nat_lt, List, length, get_or, IsPermutation, AllPairs, IsTrue}
use Rattle.cpg_base.specs.Numbers.{numbers_below}

-- whether p goes before q by these tails: the longer tail goes first, and of equal ones the lower number
abbrev pub goes_first : List ℕ → ℕ → ℕ → Bool
goes_first tails p q =
    nat_lt (get_or tails q 0) (get_or tails p 0) || ((get_or tails p 0 == get_or tails q 0) && nat_lt p q)

-- the order is that of the processes by falling tails
pub record AreRanked (tails order : List ℕ) : Type 0 where
  -- it has each process number once
  pub all : IsPermutation (numbers_below (length tails)) order
  -- each process comes after all that go first
  pub falling : AllPairs (λ p q. IsTrue (goes_first tails p q)) order
