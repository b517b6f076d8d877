-- Filling in the fault counts, the values and the lengths of a scenario, process by process.
use Rattle.std.proofs.Common.{ℕ, zero, suc, ◌+◌, ◌-◌, ◌<◌, ◌≤◌, ◌≡◌, Bool, true, false, List, [], ◌∷◌, length, get_or}
use Rattle.std.proofs.Common.{set, map, sum_by, sym, ap, ◌∙◌, subst, ⊎_elim, arith}
use Rattle.std.specs.Prelude.{nat_le}
use Rattle.std.specs.List.{list_all}
use Rattle.std.proofs.lemmas.Bool.{cases_lt, both_ways, false_from_ne_true, lt-leb}
use Rattle.std.proofs.lemmas.List.{length-set, get_or-set_same, get_or-set_other, ext_get_or, length-map}
use Rattle.std.proofs.lemmas.List.FromFn.{length-range_with_len}
use Rattle.std.proofs.lemmas.List.Sums.{sum_by-append, sum_by-cons}
use Rattle.cpg_base.specs.Numbers.{numbers_below}
use Rattle.cpg_base.proofs.Lists.{from_all, all_from, Contains-numbers, numbers-Contains, below_push, get_or-map-below}

-- ---- tests of all numbers below a bound

-- a test that passes for each number below a bound passes for all
pub all_pass : (p : ℕ → Bool) (n : ℕ) → ((i : ℕ) → i < n → p i ≡ true) → list_all p (numbers_below n) ≡ true
all_pass p n h = all_from p (numbers_below n) (λ i c. h i (numbers-Contains n i c))

-- a test that fails for one number below a bound doesn't pass for all
pub one_fails : (p : ℕ → Bool) (n i : ℕ) → i < n → p i ≡ false → list_all p (numbers_below n) ≡ false
one_fails p n i less is_false = false_from_ne_true (list_all p (numbers_below n))
    (λ t. both_ways _ is_false (from_all p (numbers_below n) i t (Contains-numbers n i less)))

-- what holds of the numbers below n, and of n, holds of those below n + 1
pub below_next : (P : ℕ → Type 0) (n : ℕ) → ((i : ℕ) → i < n → P i) → P n → (i : ℕ) → i < n + 1 → P i
below_next P n below_n here i below_next_one =
    ⊎_elim (λ (which : i < n). below_n i which)
    (λ (which : n ≤ i). let is_n : n ≡ i = omega arith in subst P is_n here) (cases_lt i n)

-- ---- a list that is filled in

-- a list of `count` places is filled in up to n with what f gives; d is what `get_or` answers past its end, so it plays no part
pub record FilledTo {X : Type 0} (f : ℕ → X) (count : ℕ) (d : X) (n : ℕ) (xs : List X) : Type 0 where
  -- it has as many places
  pub long : length xs ≡ count
  -- at each place below n it has what f gives
  pub there : (i : ℕ) → i < n → get_or xs i d ≡ f i

-- at the start nothing is filled in
pub filled_first : {X : Type 0} (f : ℕ → X) (count : ℕ) (d : X) (xs : List X) → length xs ≡ count →
    FilledTo f count d 0 xs
filled_first f count d xs is = record { long = is; there = λ i k. absurd (omega arith) }

-- with f n set at place n, a list that is filled up to n is filled up to n + 1
pub filled_next : {X : Type 0} (f : ℕ → X) (count : ℕ) (d : X) (n : ℕ) (xs : List X) (x : X) → n < count → x ≡ f n →
    FilledTo f count d n xs →
    FilledTo f count d (n + 1) (set xs n x)
filled_next f count d n xs x place_inside is_value filled = record {
  long = length-set xs n x ∙ filled.long;
  there = λ i i_below. ⊎_elim
      (λ (which : i < n). get_or-set_other xs n i x d (λ is_n. omega arith) ∙ filled.there i which)
      (λ (which : n ≤ i). let is_n : i ≡ n = omega arith in
      ap (λ j. get_or (set xs n x) j d) is_n ∙ get_or-set_same xs n x d (let long_enough = filled.long in omega arith)
      ∙ is_value ∙ ap f (sym is_n))
      (cases_lt i n);
}

-- when all places are filled in, the list is that of what f gives below `count`
pub filled_all : {X : Type 0} (f : ℕ → X) (count : ℕ) (d : X) (n : ℕ) (xs : List X) → count ≤ n →
    FilledTo f count d n xs →
    xs ≡ map f (numbers_below count)
filled_all f count d n xs all_filled filled =
    let long = length-map (numbers_below count) f ∙ length-range_with_len 0 count in
    ext_get_or d xs (map f (numbers_below count)) (filled.long ∙ sym long)
    (λ i i_below. filled.there i (let long_enough = filled.long in omega arith)
    ∙ sym (get_or-map-below f count i d (let long_enough = filled.long in omega arith)))

-- ---- the rest of a budget

-- the sum of f over the numbers below n + 1 is that over those below n, and f n
pub sum_next : (f : ℕ → ℕ) (n : ℕ) → sum_by f (numbers_below (n + 1)) ≡ sum_by f (numbers_below n) + f n
sum_next f n = ap (sum_by f) (below_push n) ∙ sum_by-append f (numbers_below n) (n ∷ [])
    ∙ (let one_more = sum_by-cons f n [] in omega arith)

-- a sum over more numbers is no less
sum_grows : (f : ℕ → ℕ) (n m : ℕ) → sum_by f (numbers_below n) ≤ sum_by f (numbers_below (n + m))
sum_grows f n zero =
    let same_sum = ap (λ k. sum_by f (numbers_below k)) (let sums : n + 0 ≡ n = omega arith in sums) in omega arith
sum_grows f n (suc m) =
    let so_far = sum_grows f n m in
    let next = sum_next f (n + m) in
    let same_sum = ap (λ k. sum_by f (numbers_below k)) (let sums : n + suc m ≡ n + m + 1 = omega arith in sums) in
    omega arith

-- If the numbers below n leave `left` of a budget, and the number at n is more, the whole sum is over the budget, as
-- the later numbers take nothing away.
pub over_budget : (f : ℕ → ℕ) (count n budget left : ℕ) → n < count → left + sum_by f (numbers_below n) ≡ budget →
    left < f n →
    nat_le (sum_by f (numbers_below count)) budget ≡ false
over_budget f count n budget left place_inside left_is over =
    let next_sum = sum_next f n in
    let whole_sum = sum_grows f (n + 1) (count - (n + 1)) in
    let same_sum = ap (λ k. sum_by f (numbers_below k))
    (let sums : n + 1 + (count - (n + 1)) ≡ count = omega arith in sums) in
    lt-leb _ _ (omega arith)
