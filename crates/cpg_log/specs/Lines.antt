-- The lines of a file, and the parts of a line.
use Rattle.std.specs.Prelude.{ℕ, ◌≡◌, ◌==◌, false, if◌then◌else◌, List, [], ◌∷◌, ◌++◌}
use Rattle.std.specs.List.{list_any}

-- the lines with a byte more at the start of the first; without lines, a line of this byte
abbrev pub with_byte : ℕ → List (List ℕ) → List (List ℕ)
with_byte b [] = (b ∷ []) ∷ []
with_byte b (line ∷ others) = (b ∷ line) ∷ others

-- the lines of some bytes. Each ends with a line feed (10), which isn't part of it and may be missing after the last
abbrev pub lines : List ℕ → List (List ℕ)
lines [] = []
lines (b ∷ bs) = if b == 10 then [] ∷ lines bs else with_byte b (lines bs)

-- `before` are the bytes before the first one that is `byte`, and `after` those after it
pub record IsParted (byte : ℕ) (bytes before after : List ℕ) : Type 0 where
  -- the byte stands between the two parts
  pub whole : bytes ≡ before ++ byte ∷ after
  -- it isn't in the first part
  pub first : list_any (λ b. b == byte) before ≡ false
