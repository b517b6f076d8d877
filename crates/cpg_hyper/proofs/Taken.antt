-- What holds of all elements of the front of a list.
use Rattle.std.proofs.Common.{◌≡◌, ℕ, zero, suc, refl, length-append, ◌+◌, ◌<◌, List, [], ◌∷◌, ◌++◌, length, get_or}
use Rattle.std.proofs.Common.{take, sym, ap, ◌∙◌, subst, arith}
use Rattle.std.specs.Prelude.{All}
use Rattle.std.proofs.lemmas.List.{take_more}
use Rattle.std.proofs.lemmas.List.Elements.{All-push, All-take}

-- an element of the first list stands at the same place in both
at_left : {X : Type 0} (xs ys : List X) (k : ℕ) (d : X) → k < length xs → get_or (xs ++ ys) k d ≡ get_or xs k d
at_left [] ys k d inside = absurd (omega arith)
at_left (x ∷ xs) ys zero d inside = refl
at_left (x ∷ xs) ys (suc k) d inside = at_left xs ys k d (omega arith)

-- the element that is added stands behind the others
at_last : {X : Type 0} (xs : List X) (y d : X) → get_or (xs ++ y ∷ []) (length xs) d ≡ y
at_last [] y d = refl
at_last (x ∷ xs) y d = at_last xs y d

-- a fact of all elements of a list holds of all but the last, and of the last
All_parts : {X : Type 0} (P : X → Type 0) (xs : List X) (x : X) → All P (xs ++ x ∷ []) → All P xs × P x
All_parts P xs x holds =
    let long = length-append xs (x ∷ []) in (
      λ k d inside. subst P (at_left xs (x ∷ []) k d inside) (holds k d (omega (arith, long, inside))),
      subst P (at_last xs x x) (holds (length xs) x (omega (arith, long))),
    )

-- given: the element at a place of a list
module _ {X : Type 0} (xs : List X) (i : ℕ) (x : X) (inside : i < length xs) (is : x ≡ get_or xs i x) where
  -- the elements up to this one are those before it and this one
  pub more : take (i + 1) xs ≡ take i xs ++ x ∷ []
  more = take_more xs i x inside ∙ ap (λ y. take i xs ++ y ∷ []) (sym is)

  -- what holds of the elements before it and of this one holds of the elements up to this one
  pub all_more : (P : X → Type 0) → All P (take i xs) → P x → All P (take (i + 1) xs)
  all_more P before this = subst (All P) (sym more) (All-push P (take i xs) x before this)

  -- what holds of the elements up to this one holds of those before it and of this one
  pub all_less : (P : X → Type 0) → All P (take (i + 1) xs) → All P (take i xs) × P x
  all_less P holds =
      let moved = subst (All P) more holds in
      All_parts P (take i xs) x moved

-- what holds of all elements holds of the first ones
pub all_same : {X : Type 0} (xs : List X) (i : ℕ) (P : X → Type 0) → All P xs → All P (take i xs)
all_same xs i P a = All-take P i xs a
