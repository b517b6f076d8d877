-- Spaces: the scenarios that come to a place of a tree, as a range for each variable and the faults left beyond the
-- lows.
-- Variables below 128 are fault counts, and those from 128 on are values of conditions.
use Rattle.std.specs.Prelude.{ℕ, ◌+◌, ◌-◌, ◌≤◌, ◌<◌, ◌≡◌, Bool, ◌&&◌, ◌||◌, nat_le, nat_lt, if◌then◌else◌, get_or}
use Rattle.std.specs.Prelude.{slice_set, sum_by, length}
use Rattle.cpg_base.specs.Numbers.{numbers_below}
use Rattle.cpg_base.specs.Scenario.{Scenario, number_of, fault_of}
use Rattle.cpg_cube.specs.declared.literal.Literal.{Literal}
pub use Rattle.cpg_tree.specs.declared.space.Space.{Space}
use Rattle.cpg_tree.specs.declared.space.Lifted.{Lifted}

-- by how much the fault count of process p is above its low
abbrev pub beyond : Space → Scenario → ℕ → ℕ
beyond space s p = fault_of s p - get_or space.low p 0

-- each number of the scenario is in its range, and the faults beyond the lows are at most those left
pub record IsInSpace (space : Space) (s : Scenario) : Type 0 where
  pub low : (v : ℕ) → v < 256 → get_or space.low v 0 ≤ number_of s v
  pub high : (v : ℕ) → v < 256 → number_of s v ≤ get_or space.high v 0
  -- only counts take faults, each as many as it is above its low
  pub left : sum_by (beyond space s) (numbers_below 128) ≤ space.left

-- the scenario has at most k faults in all
abbrev pub HasAtMostFaults : ℕ → Scenario → Type 0
HasAtMostFaults k s = sum_by (fault_of s) (numbers_below 128) ≤ k

-- whether the range of v has a number up to the cut
abbrev pub is_open_below : Space → ℕ → ℕ → Bool
is_open_below space v cut = nat_le (get_or space.low v 0) cut

-- whether the range of v has a number above the cut, and the faults left allow it; a value takes no faults
abbrev pub is_open_above : Space → ℕ → ℕ → Bool
is_open_above space v cut =
    nat_lt cut (get_or space.high v 0) && (nat_le 128 v || nat_lt cut (get_or space.low v 0 + space.left))

-- how many faults it takes to raise v by `count`: as many if v is a fault count, and none if it is a value
abbrev pub faults_of : ℕ → ℕ → ℕ
faults_of v count = if nat_lt v 128 then count else 0

-- how many of the faults left a literal takes: by how much its low is above the space's, if its variable is a count
abbrev pub asked_beyond : Space → Literal → ℕ
asked_beyond space l = faults_of l.variable (l.low - get_or space.low l.variable 0)

-- the part of a space up to a cut of v: the cut becomes the high
abbrev pub below_cut : Space → ℕ → ℕ → Space
below_cut space v cut = record { low = space.low; high = slice_set space.high v cut; left = space.left }

-- the part of a space above a cut of v: the low becomes `cut + 1`, and the faults that this takes are no longer left
abbrev pub above_cut : Space → ℕ → ℕ → Space
above_cut space v cut = record {
  low = slice_set space.low v (cut + 1);
  high = space.high;
  left = space.left - faults_of v (cut + 1 - get_or space.low v 0);
}

-- the space with the low of v and the faults left from before, when `above_cut` is undone
abbrev pub reopened_below : Space → ℕ → Lifted → Space
reopened_below space v was = record { low = slice_set space.low v was.low; high = space.high; left = was.left }

-- the space has all scenarios of at most k faults
pub record IsWhole (k : ℕ) (space : Space) : Type 0 where
  -- each of the 256 variables has a low and a high
  pub long : length space.low ≡ 256
  pub high_long : length space.high ≡ 256
  pub lows : (v : ℕ) → v < 256 → get_or space.low v 0 ≡ 0
  -- a count is at most k, and a value at most 1
  pub counts : (v : ℕ) → v < 128 → get_or space.high v 0 ≡ k
  pub values : (v : ℕ) → 128 ≤ v → v < 256 → get_or space.high v 0 ≡ 1
  pub left : space.left ≡ k
