-- The greatest value of a function over the numbers of a kind.
use Rattle.std.specs.Prelude.{ℕ, ◌≤◌}

-- `v` is the greatest value of `f` over the numbers with `P`, or 0 if there is none
pub record IsMost (P : ℕ → Type 0) (f : ℕ → ℕ) (v : ℕ) : Type 0 where
  -- no value is greater
  pub above : (y : ℕ) → P y → f y ≤ v
  -- every other bound is at least `v`
  pub least : (b : ℕ) → ((y : ℕ) → P y → f y ≤ b) → v ≤ b
