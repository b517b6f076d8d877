-- What a shelf gave, fetch by fetch. A history has the newest fetch first.
use Rattle.std.specs.Prelude.{ℕ, ◌++◌, ◌||◌, Bool, true, false, List, [], ◌∷◌}

-- a fetch, and what the reads after it gave
pub record Fetch : Type 0 where
  -- the name that was fetched
  pub name : List ℕ
  -- all bytes that the reads have given so far
  pub given : List ℕ
  -- whether a read gave nothing, so that the file has ended
  pub ended : Bool
  -- whether the fetch or a read failed
  pub failed : Bool

-- whether a piece has no bytes
abbrev pub is_none : List ℕ → Bool
is_none [] = true
is_none (x ∷ xs) = false

-- the history after a name is fetched
abbrev pub fetched : List ℕ → List Fetch → List Fetch
fetched name past = record { name = name; given = []; ended = false; failed = false } ∷ past

-- the history after a read gave a piece, which is empty at the end of the file; before the first fetch nothing is noted
abbrev pub gave : List ℕ → List Fetch → List Fetch
gave piece [] = []
gave piece (f ∷ past) =
    record { name = f.name; given = f.given ++ piece; ended = is_none piece || f.ended; failed = f.failed } ∷ past

-- the history after a call failed, whose fetch is the newest; before the first fetch nothing is noted
abbrev pub failed : List Fetch → List Fetch
failed [] = []
failed (f ∷ past) = record f { failed = true } ∷ past

-- the bytes that the newest fetch gave, or none before the first fetch
abbrev pub newest_given : List Fetch → List ℕ
newest_given [] = []
newest_given (f ∷ past) = f.given
