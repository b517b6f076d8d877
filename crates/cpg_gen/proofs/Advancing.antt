-- Numbers after several draws.
use Rattle.std.proofs.Common.{ℕ, zero, suc, ◌+◌, ◌≡◌, refl, ap, ◌∙◌, arith}
use Rattle.cpg_base.specs.Draws.{next_number}
use Rattle.cpg_gen.specs.Draws.{number_after}

-- n draws after m draws are n + m draws
pub number_after-add : (x m n : ℕ) → number_after (number_after x m) n ≡ number_after x (n + m)
unfolding number_after
-- by induction on `n`
number_after-add x m zero = ap (number_after x) (omega arith)
number_after-add x m (suc n) =
    let later : suc (n + m) ≡ suc n + m = omega arith in
    ap next_number (number_after-add x m n) ∙ ap (number_after x) later

-- one draw more takes the next number
pub number_after-suc : (x n : ℕ) → number_after x (suc n) ≡ next_number (number_after x n)
unfolding number_after
number_after-suc x n = refl

-- no draws leave the number as it is
pub number_after-zero : (x : ℕ) → number_after x 0 ≡ x
unfolding number_after
number_after-zero x = refl
