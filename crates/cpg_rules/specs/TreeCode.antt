-- A code for guard trees, by which a proof tells equal trees from others: a tree as a list of pieces, and back.
use Rattle.std.specs.Prelude.{ℕ, ◌≡◌, List, [], ◌∷◌, Option, Some, None, ◌⊎◌, refl}
use Rattle.std.proofs.Common.{inl, inr, ◌∙◌}
use Rattle.std.specs.Coded.{Coded, code_by, coded_list, coded_option, coded_ℕ, coded⊎}
use Rattle.cpg_base.specs.declared.activation.Activation.{Activation}
use Rattle.cpg_base.specs.declared.activation.Activation.TheVariants.{Inactive, Plain, By}
use Rattle.cpg_order.specs.Guard.{Guard, Leaf, Test}

-- the code of an activation: None if it is inactive, Some None if it is plain, and Some (Some e) if it is by edge e
abbrev pub activation_to : Activation → Option (Option ℕ)
activation_to Inactive = None
activation_to Plain = Some None
activation_to (By e) = Some (Some e)

-- the activation that a code stands for
abbrev pub activation_from : Option (Option ℕ) → Activation
activation_from None = Inactive
activation_from (Some None) = Plain
activation_from (Some (Some e)) = By e

-- coding an activation and reading the code gives it back
pub activation_back : (a : Activation) → activation_from (activation_to a) ≡ a
activation_back Inactive = refl
activation_back Plain = refl
activation_back (By e) = refl

-- a code for activations: an option of an option of a number
abbrev pub activation_code : Coded Activation
activation_code =
    code_by (Option (Option ℕ)) (coded_option (coded_option coded_ℕ)) activation_to activation_from activation_back

-- a leaf, or the condition of a test, whose two sides come before it
abbrev pub Piece : Type 0
Piece = Activation ⊎ ℕ

-- the pieces of a tree, before the rest: of a test the side for false, the side for true, and then its condition
abbrev pub pieces_of : Guard → List Piece → List Piece
pieces_of (Leaf a) rest = inl a ∷ rest
pieces_of (Test c off on) rest = pieces_of off (pieces_of on (inr c ∷ rest))

-- The tree of some pieces, if these trees were read before, the last of them first. A condition takes the last two as
-- its sides. Pieces that are those of no tree give a leaf.
abbrev pub tree_from : List Piece → List Guard → Guard
tree_from [] [] = Leaf Inactive
-- no piece is left: the tree that was read last is the whole
tree_from [] (t ∷ ts) = t
tree_from (inl a ∷ rest) ts = tree_from rest (Leaf a ∷ ts)
-- a condition without two trees before it: no tree has such pieces
tree_from (inr c ∷ rest) [] = Leaf Inactive
tree_from (inr c ∷ rest) (t ∷ []) = Leaf Inactive
-- the side for true was read last, since it comes after the side for false
tree_from (inr c ∷ rest) (on ∷ off ∷ ts) = tree_from rest (Test c off on ∷ ts)

-- The pieces of a tree are read as the tree. By induction on the tree: of a test first the side for false is read, then
-- the side for true, and then the condition joins them.
pub tree_from-pieces : (t : Guard) (rest : List Piece) (ts : List Guard) →
    tree_from (pieces_of t rest) ts ≡ tree_from rest (t ∷ ts)
tree_from-pieces (Leaf a) rest ts = refl
tree_from-pieces (Test c off on) rest ts =
    tree_from-pieces off (pieces_of on (inr c ∷ rest)) ts ∙ tree_from-pieces on (inr c ∷ rest) (off ∷ ts)

-- a code for trees: the list of their pieces
abbrev pub tree_code : Coded Guard
tree_code =
    code_by (List Piece) (coded_list (coded⊎ activation_code coded_ℕ)) (λ t. pieces_of t []) (λ ps. tree_from ps [])
    (λ t. tree_from-pieces t [] [])
