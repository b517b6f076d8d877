-- The hyperperiod: the time after which all parts begin a period together again.
use Rattle.std.specs.Prelude.{ℕ, ◌<◌, ◌*◌, List, All}
use Rattle.std.specs.Int.{◌∣◌}
use Rattle.cpg_hyper.specs.declared.part.Part.{Part}

-- g is the greatest common divisor of a and b
pub record IsMeasure (a b g : ℕ) : Type 0 where
  -- g is above 0
  pub some : 0 < g
  -- g divides a
  pub first : g ∣ a
  -- g divides b
  pub second : g ∣ b
  -- each common divisor divides g (m is 1 then), also after all three are multiplied by m
  pub most : (d m : ℕ) → d ∣ m * a → d ∣ m * b → d ∣ m * g

-- l is the least common multiple of a and b: a multiple of both that divides each other one
pub record IsLeastCommon (a b l : ℕ) : Type 0 where
  -- l is a multiple of a
  pub first : a ∣ l
  -- l is a multiple of b
  pub second : b ∣ l
  -- l divides each common multiple of a and b
  pub least : (m : ℕ) → a ∣ m → b ∣ m → l ∣ m

-- m is a whole number of periods of every part
abbrev pub IsCommon : List Part → ℕ → Type 0
IsCommon parts m = All (λ part. part.period ∣ m) parts

-- h is the least common multiple of all periods: a common multiple above 0 that divides each other one
pub record IsHyperperiod (parts : List Part) (h : ℕ) : Type 0 where
  -- h is above 0
  pub some : 0 < h
  -- h is a whole number of periods of every part
  pub common : IsCommon parts h
  -- h divides each number that is a whole number of periods of every part
  pub least : (m : ℕ) → IsCommon parts m → h ∣ m
