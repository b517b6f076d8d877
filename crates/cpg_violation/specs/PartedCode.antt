-- Parted places as a list of pieces and back, so that a proof can tell two of them apart.
use Rattle.std.specs.Prelude.{ℕ, ◌≡◌, List, [], ◌∷◌, ◌⊎◌, refl}
use Rattle.std.proofs.Common.{inl, inr, ◌∙◌}
use Rattle.std.specs.Coded.{Coded, code_by, coded_list, coded_ℕ, coded⊎}
use Rattle.cpg_violation.specs.Parted.{Parted, Leaf, Cut}

-- `inl` has the places of a leaf, `inr` the variable and the number of a cut, whose two sides come before it
abbrev pub Piece : Type 0
Piece = List ℕ ⊎ List ℕ

-- the pieces of a tree, in front of `rest`: those of a cut's sides come first, then the cut
abbrev pub pieces_of : Parted → List Piece → List Piece
pieces_of (Leaf places) rest = inl places ∷ rest
pieces_of (Cut v most below above) rest = pieces_of below (pieces_of above (inr (v ∷ most ∷ []) ∷ rest))

-- the tree that pieces spell, given a stack of the trees that were read so far, the last one first
abbrev pub parted_from : List Piece → List Parted → Parted
-- after the last piece the tree is on top of the stack; an empty stack spells none, so any tree will do
parted_from [] [] = Leaf []
parted_from [] (t ∷ ts) = t
-- a leaf goes onto the stack, and a cut takes its two sides off it
parted_from (inl places ∷ rest) ts = parted_from rest (Leaf places ∷ ts)
parted_from (inr (v ∷ most ∷ ns) ∷ rest) (above ∷ below ∷ ts) = parted_from rest (Cut v most below above ∷ ts)
-- a cut without two numbers or two sides isn't in the pieces of any tree
parted_from (inr ns ∷ rest) ts = Leaf []

-- reading the pieces of a tree puts the tree onto the stack; by induction on the tree: a cut reads its sides one after
-- the other, and then takes both off the stack
pub parted_from-pieces : (t : Parted) (rest : List Piece) (ts : List Parted) →
    parted_from (pieces_of t rest) ts ≡ parted_from rest (t ∷ ts)
parted_from-pieces (Leaf places) rest ts = refl
parted_from-pieces (Cut v most below above) rest ts =
    parted_from-pieces below (pieces_of above (inr (v ∷ most ∷ []) ∷ rest)) ts
    ∙ parted_from-pieces above (inr (v ∷ most ∷ []) ∷ rest) (below ∷ ts)

-- trees are coded by their pieces, which are read back as the tree
abbrev pub parted_code : Coded Parted
parted_code =
    code_by (List Piece) (coded_list (coded⊎ (coded_list coded_ℕ) (coded_list coded_ℕ))) (λ t. pieces_of t []) (λ ps.
    parted_from ps []) (λ t. parted_from-pieces t [] [])
