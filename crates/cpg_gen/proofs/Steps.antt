-- From one process to the next.
use Rattle.std.proofs.Common.{ℕ, ◌+◌, ◌≡◌, Bool, true, false, cond, List, [], ◌∷◌, ◌++◌, refl, sym, ap, ◌∙◌, arith}
use Rattle.std.proofs.Common.{append-nil}
use Rattle.std.specs.List.{flat_map, sum_by}
use Rattle.std.proofs.lemmas.Grind.{flat_map-append}
use Rattle.std.proofs.lemmas.List.Sums.{sum_by_push}
use Rattle.cpg_base.specs.Numbers.{numbers_below}
use Rattle.cpg_base.proofs.Lists.{below_push}
use Rattle.cpg_base.specs.Draws.{next_number}
use Rattle.cpg_gen.specs.Draws.{number_after}
use Rattle.cpg_gen.specs.Generated.{has_predecessor, draws_of, draws_before, number_before}
use Rattle.cpg_gen.proofs.Advancing.{number_after-add, number_after-suc}

-- the draws before the next process are those before this one and its own
draws_before_push : (i : ℕ) → draws_of i + draws_before i ≡ draws_before (i + 1)
draws_before_push i =
    let pushed : draws_before (i + 1) ≡ draws_before i + draws_of i =
    ap (sum_by draws_of) (below_push i) ∙ sum_by_push draws_of (numbers_below i) i in
    omega (arith, pushed)

-- after the draws of process i, the number is the one from which those of process i + 1 start
number_before_next : (number i : ℕ) → number_after (number_before number i) (draws_of i) ≡ number_before number (i + 1)
number_before_next number i =
    number_after-add number (draws_before i) (draws_of i) ∙ ap (number_after number) (draws_before_push i)

-- a process takes six draws if it has a predecessor, and five if not
sixth : (b : Bool) (x : ℕ) → cond b (next_number (number_after x 5)) (number_after x 5) ≡ number_after x (cond b 6 5)
sixth true x = sym (number_after-suc x 5)
sixth false x = refl

-- the draws of a process end with the number from which those of the next one start
pub number_before_after : (number i : ℕ) →
    cond (has_predecessor i) (next_number (number_after (number_before number i) 5))
    (number_after (number_before number i) 5) ≡ number_before number (i + 1)
number_before_after number i = sixth (has_predecessor i) (number_before number i) ∙ number_before_next number i

-- the elements of one number more come after those of the numbers before it
pub flat_map_below_push : {X : Type 0} (f : ℕ → List X) (n : ℕ) →
    flat_map f (numbers_below n) ++ f n ≡ flat_map f (numbers_below (n + 1))
flat_map_below_push f n = sym (ap (flat_map f) (below_push n) ∙ flat_map-append f (numbers_below n) (n ∷ [])
    ∙ ap (λ ys. flat_map f (numbers_below n) ++ ys) (append-nil (f n)))
