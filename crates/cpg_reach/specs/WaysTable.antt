-- In how many ways fault counts add up to at most a number.
use Rattle.std.specs.Prelude.{ℕ, ◌≡◌, ◌≤◌, List, get_or, length}
use Rattle.cpg_order.specs.Counting.{ways}

-- the table has, for each number m of counts up to 128, the ways in which m counts add up to at most k
pub record AreWays (k : ℕ) (table : List ℕ) : Type 0 where
  -- one entry for each m from 0 to 128
  pub long : length table ≡ 129
  -- the entry at m is that number of ways
  pub each : (m : ℕ) → m ≤ 128 → get_or table m 0 ≡ ways m k
