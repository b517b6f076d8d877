-- The text of pieces, written one after the other.
use Rattle.std.specs.Prelude.{ℕ, List, [], ◌∷◌, ◌++◌, codes}

-- the text that another piece is written after: a comma and a space follow it, unless it is empty
abbrev pub led : List ℕ → List ℕ
led [] = []
led (c ∷ cs) = (c ∷ cs) ++ codes ", "

-- the text with more pieces, one after the other
abbrev pub with_pieces : List ℕ → List (List ℕ) → List ℕ
with_pieces text [] = text
with_pieces text (p ∷ ps) = with_pieces (led text ++ p) ps

-- the text, or `none` if it is empty
abbrev pub or_none : List ℕ → List ℕ
or_none [] = codes "none"
or_none (c ∷ cs) = c ∷ cs
