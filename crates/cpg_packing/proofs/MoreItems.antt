-- What is made of the numbers below n, and of one more.
use Rattle.std.proofs.Common.{ℕ, ◌+◌, ◌≡◌, List, [], ◌∷◌, ◌++◌, map, arith, sym, ap, ap₂, ◌∙◌}
use Rattle.std.proofs.lemmas.List.{map-append}
use Rattle.cpg_table.proofs.GraphItems.{range-append}
use Rattle.cpg_base.specs.Numbers.{numbers_below}

-- if `xs` is what `f` makes of the numbers below `n`, and `x` what it makes of `n`, the list with `x` at its end,
-- `more`, is what it makes of the numbers below `n + 1`
pub map_more : {X : Type 0} (f : ℕ → X) (n : ℕ) (xs more : List X) (x : X) → xs ≡ map f (numbers_below n) → x ≡ f n →
    more ≡ xs ++ x ∷ [] →
    more ≡ map f (numbers_below (n + 1))
map_more f n xs more x is_xs new is =
    let next : numbers_below (n + 1) ≡ numbers_below n ++ n ∷ [] =
    range-append 0 n 1 ∙ ap (λ k. numbers_below n ++ k ∷ []) (let is_n : 0 + n ≡ n = omega arith in is_n) in
    is ∙ ap₂ (λ ys y. ys ++ y ∷ []) is_xs new ∙ sym (ap (map f) next ∙ map-append f (numbers_below n) (n ∷ []))
