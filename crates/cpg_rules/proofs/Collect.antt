-- Lists that a loop over numbers collects.
use Rattle.std.proofs.Common.{ℕ, ◌+◌, ◌≡◌, Bool, true, false, List, [], ◌∷◌, ◌++◌, map, filter, ap, ◌∙◌, sym, refl}
use Rattle.std.proofs.lemmas.List.{map-append}
use Rattle.cpg_base.specs.Numbers.{numbers_below}
use Rattle.cpg_base.proofs.Lists.{filter_below_takes, filter_below_skips}

-- a number that passes adds its element
pub collects : {X : Type 0} (f : ℕ → X) (p : ℕ → Bool) (xs ys : List X) (x : X) (n : ℕ) →
    xs ≡ map f (filter p (numbers_below n)) → p n ≡ true → x ≡ f n →
    ys ≡ xs ++ x ∷ [] →
    ys ≡ map f (filter p (numbers_below (n + 1)))
collects f p xs ys x n f_is is_true x_is is =
    is ∙ ap (λ zs. zs ++ x ∷ []) f_is ∙ ap (λ z. map f (filter p (numbers_below n)) ++ z ∷ []) x_is
    ∙ sym (map-append f (filter p (numbers_below n)) (n ∷ []))
    ∙ ap (map f)
    (filter_below_takes p (filter p (numbers_below n)) (filter p (numbers_below n) ++ n ∷ []) n refl is_true refl)

-- a number that fails adds no element
pub passes_over : {X : Type 0} (f : ℕ → X) (p : ℕ → Bool) (xs : List X) (n : ℕ) →
    xs ≡ map f (filter p (numbers_below n)) → p n ≡ false →
    xs ≡ map f (filter p (numbers_below (n + 1)))
passes_over f p xs n is is_false = is ∙ ap (map f) (filter_below_skips p (filter p (numbers_below n)) n refl is_false)
