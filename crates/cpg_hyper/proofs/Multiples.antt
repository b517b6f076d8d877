-- Common divisors and multiples.
use Rattle.std.proofs.Common.{◌≡◌, ℕ, zero, suc, ◌+◌, ◌*◌, ◌/◌, ◌%◌, ◌-◌, ◌<◌, ◌≤◌, List, length, get_or, take, sym, ap}
use Rattle.std.proofs.Common.{◌∙◌, subst, arith}
use Rattle.std.specs.Int.{◌∣◌}
use Rattle.std.proofs.lemmas.Nat.Gcd.{dvd_refl, dvd-zero, dvd_trans, le_of_dvd}
use Rattle.std.proofs.Math.Nat.{dvd-mul_left, dvd-mul_left_of_dvd, mul-dvd-mul_left, mul-dvd-mul_right}
use Rattle.std.proofs.Math.Nat.{dvd_of_mul-dvd-mul_left, div-mul_cancel, dvd-sub, dvd-mod_iff, div-add-mod, one-dvd}
use Rattle.cpg_hyper.specs.Hyperperiod.{IsMeasure, IsLeastCommon, IsCommon, IsHyperperiod}
use Rattle.cpg_hyper.specs.declared.part.Part.{Part}
use Rattle.cpg_hyper.proofs.Taken.{all_more, all_less, all_same}

-- the greatest common divisor of a number and 0 is the number
pub measure_zero : (a b : ℕ) → 1 ≤ a → b ≡ 0 → IsMeasure a b a
measure_zero a b some is_zero = record {
  some = omega (arith, some);
  first = dvd_refl a;
  second = subst (λ n. a ∣ n) (sym is_zero) (dvd-zero a);
  most = λ d m of_a of_zero. of_a;
}

-- m times the rest of a division is m times the number less q times m times the divisor
by_parts : (m b q r a : ℕ) → b * q + r ≡ a → m * r ≡ m * a - q * (m * b)
by_parts m b q r a divided = rw (← divided) (omega arith)

-- m times `a % b` is m times a less `a / b` times m times b
rest_of : (m a b : ℕ) → m * (a % b) ≡ m * a - a / b * (m * b)
rest_of m a b = by_parts m b (a / b) (a % b) a (div-add-mod a b)

-- a step of Euclid's algorithm keeps the greatest common divisor
pub measure_step : (a b g : ℕ) → IsMeasure b (a % b) g → IsMeasure a b g
measure_step a b g measure = record {
  some = measure.some;
  first = (dvd-mod_iff g measure.first).0 measure.second;
  second = measure.first;
  most = λ d m divides_a divides_b.
      measure.most d m divides_b
      (subst (λ n. d ∣ n) (sym (rest_of m a b)) (dvd-sub d divides_a (dvd-mul_left_of_dvd d divides_b (a / b))));
}

-- of three factors the first two may change places
swap_inner : (x k g : ℕ) → x * (k * g) ≡ k * (x * g)
swap_inner x k g = omega arith

-- of three factors the second may come first
swap_outer : (k g b : ℕ) → k * g * b ≡ g * (k * b)
swap_outer k g b = omega arith

-- two factors may change places
swap : (m g : ℕ) → m * g ≡ g * m
swap m g = omega arith

-- the product of two numbers over their greatest common divisor is their least common multiple
pub least_of : (a b g : ℕ) → IsMeasure a b g → IsLeastCommon a b (a / g * b)
-- a / g * b is a multiple of b, and b / g times a. If m is a multiple of both, a * b divides m * b and m * a, so also m * g, from
-- which g is taken out.
least_of a b g is_measure =
    let quotient = a / g in
    let own : quotient * g ≡ a = div-mul_cancel g is_measure.first in
    let other : b / g * g ≡ b = div-mul_cancel g is_measure.second in
    let same : b / g * a ≡ quotient * b = ap (λ x. b / g * x) (sym own) ∙ swap_inner (b / g) quotient g
    ∙ ap (λ x. quotient * x) other in
    record {
      first = subst (λ n. a ∣ n) same (dvd-mul_left a (b / g));
      second = dvd-mul_left b quotient;
      least = λ m a_divides b_divides.
          let both =
          is_measure.most (a * b) m (subst (λ n. a * b ∣ n) (swap a m) (mul-dvd-mul_left b a b_divides))
          (mul-dvd-mul_right a a_divides b) in
          let left : a * b ≡ g * (quotient * b) = ap (λ x. x * b) (sym own) ∙ swap_outer quotient g b in
          dvd_of_mul-dvd-mul_left (quotient * b) is_measure.some
          (subst (λ n. n ∣ g * m) left (subst (λ n. a * b ∣ n) (swap m g) both));
    }

-- if a product isn't 0, its factors aren't
both_some : (k g b : ℕ) → 1 ≤ k * g → 1 ≤ b → 1 ≤ k * b
both_some zero g b product_some b_some = absurd (omega (arith, product_some))
both_some (suc k) g b product_some b_some = omega (arith, b_some)

-- the least common multiple of numbers above 0 is above 0
pub least_some : (a b g : ℕ) → IsMeasure a b g → 1 ≤ a → 1 ≤ b → 1 ≤ a / g * b
least_some a b g measure a_some b_some =
    both_some (a / g) g b (subst (λ n. 1 ≤ n) (sym (div-mul_cancel g measure.first)) a_some) b_some

-- `whole` is the least common multiple of the periods of the parts so far
pub record IsSoFar (parts : List Part) (whole : ℕ) : Type 0 where
  -- it is a multiple of each period, and each other common multiple is a multiple of it
  pub common : IsCommon parts whole
  pub least : (m : ℕ) → IsCommon parts m → whole ∣ m

-- the least common multiple of no periods is 1
pub none_so_far : (parts : List Part) → IsSoFar (take 0 parts) 1
none_so_far parts = record { common = λ k d inside. absurd (omega arith); least = λ m divided. one-dvd m }

-- with one more period the least common multiple is that of the former one and the period
pub more_so_far : (parts : List Part) (i : ℕ) (part : Part) (whole new : ℕ) → i < length parts →
    part ≡ get_or parts i part → IsSoFar (take i parts) whole →
    IsLeastCommon whole part.period new →
    IsSoFar (take (i + 1) parts) new
-- what divides the former multiple divides the new one; a multiple of all periods is one of the former and of the next
more_so_far parts i part whole new inside is so_far least_common = record {
  common =
      all_more parts i part inside is (λ d. d.period ∣ new)
      (λ k d k_inside. dvd_trans _ (so_far.common k d k_inside) least_common.first) least_common.second;
  least = λ m divided.
      let (before, here) = all_less parts i part inside is (λ d. d.period ∣ m) divided in
      least_common.least m (so_far.least m before) here;
}

-- the least common multiple of some of the periods is at most the hyperperiod
pub least_below : (parts : List Part) (i whole new : ℕ) → IsSoFar (take i parts) new → IsHyperperiod parts whole →
    new ≤ whole
least_below parts i whole new so_far is_hyperperiod =
    le_of_dvd is_hyperperiod.some (so_far.least whole (all_same parts i (λ d. d.period ∣ whole) is_hyperperiod.common))
