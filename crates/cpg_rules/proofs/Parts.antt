-- What holds of all elements of a list that begins with one.
use Rattle.std.proofs.Common.{suc, ◌≡◌, All, subst, List, ◌∷◌, arith}

-- what holds of all elements holds of the first, and of those after it
pub all_parts : {X : Type 0} (P : X → Type 0) (x : X) (whole xs : List X) → whole ≡ x ∷ xs → All P whole →
    P x × All P xs
all_parts P x whole xs is h =
    let all : All P (x ∷ xs) = subst (All P) is h in
    (all 0 x (omega arith), λ k d l. all (suc k) d (omega arith))
