-- A loop that takes one element after another from bytes.
use Rattle.std.proofs.Common.{ℕ, ◌≡◌, ◌∙◌, List, [], ◌∷◌, ◌++◌, ap, sym, append-nil, append_assoc}
use Rattle.std.specs.List.{flat_map}
use Rattle.std.proofs.lemmas.List.Concat.{flat_map-append}

-- the bytes of one element more are those of the elements before it, and its own
one_more : {X : Type 0} (f : X → List ℕ) (xs : List X) (x : X) → flat_map f (xs ++ x ∷ []) ≡ flat_map f xs ++ f x
one_more f xs x = flat_map-append f xs (x ∷ []) ∙ ap (λ (t : List ℕ). flat_map f xs ++ t) (append-nil (f x))

-- if bytes are those of some elements and a rest, and the rest is one element more and what is left, the bytes are those of all these
-- elements and what is left
pub taken_more : {X : Type 0} (f : X → List ℕ) (xs more : List X) (x : X) (bytes rest left : List ℕ) →
    bytes ≡ flat_map f xs ++ rest → rest ≡ f x ++ left → more ≡ xs ++ x ∷ [] → bytes ≡ flat_map f more ++ left
taken_more f xs more x bytes rest left so_far taken is =
    so_far ∙ ap (λ (t : List ℕ). flat_map f xs ++ t) taken ∙ sym (append_assoc (flat_map f xs) (f x) left)
    ∙ ap (λ (t : List ℕ). t ++ left) (sym (one_more f xs x)) ∙ ap (λ (ys : List _). flat_map f ys ++ left) (sym is)
