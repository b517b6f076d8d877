-- Texts that begin with another one. After a failed call the old text is still there, and perhaps more after it.
use Rattle.std.specs.Prelude.{◌≡◌, ℕ, List, ◌++◌}

-- `whole` begins with `front`; `rest` comes after it
abbrev pub IsFrontOf : List ℕ → List ℕ → Type 0
IsFrontOf front whole = (rest : List ℕ) × (whole ≡ front ++ rest)
