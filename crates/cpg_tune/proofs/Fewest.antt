-- The first number of parts that lasts least.
use Rattle.std.proofs.Common.{ℕ, zero, suc, ◌+◌, ◌-◌, ◌*◌, ◌<◌, ◌≤◌, ◌≡◌, ◌⊎◌, Bool, true, false, cond, [], ◌∷◌, ◌++◌}
use Rattle.std.proofs.Common.{fold, refl, sym, ap, ◌∙◌, subst, inl, inr, arith, min, ltb-true, le-ltb}
use Rattle.std.proofs.Common.{mul-le-mul_right}
use Rattle.std.specs.Prelude.{nat_lt}
use Rattle.std.specs.Int.{div_ceil}
use Rattle.std.proofs.lemmas.Grind.{div_ceil_times}
use Rattle.std.specs.List.{range_with_len}
use Rattle.std.proofs.lemmas.Bool.{cases_lt, ltb-false, lt-ltb}
use Rattle.std.proofs.lemmas.List.{map-id}
use Rattle.std.proofs.lemmas.List.FromFn.{map-range_with_len_more}
use Rattle.std.proofs.lemmas.List.Sums.{fold_push}
use Rattle.cpg_base.specs.declared.limits.TheConstants.{MOST_PARTS}
use Rattle.cpg_base.specs.declared.process.Process.{Process}
use Rattle.cpg_tune.specs.Best.{duration_in, shorter, best_of, IsBest}

-- one more number at the end of a range
range_push : (a n j : ℕ) → a + n ≡ j → range_with_len a (n + 1) ≡ range_with_len a n ++ j ∷ []
range_push a n j is_end =
    sym (map-id (range_with_len a (n + 1)))
    ∙ (map-range_with_len_more (λ x. x) a n j is_end ∙ ap (λ xs. xs ++ j ∷ []) (map-id (range_with_len a n)))

-- the first of 1 to n where a function is least
record IsFirstLeast (d : ℕ → ℕ) (n best : ℕ) : Type 0 where
  -- it is one of 1 to n
  some : 1 ≤ best
  few : best ≤ n
  -- the function is nowhere less
  least : (m : ℕ) → 1 ≤ m → m ≤ n → d best ≤ d m
  -- before it, the function is greater
  first : (m : ℕ) → 1 ≤ m → m < best → d best < d m

-- the first least number is compared with one more
first_next : (d : ℕ → ℕ) (n best : ℕ) → IsFirstLeast d n best →
    IsFirstLeast d (n + 1) (cond (nat_lt (d (n + 1)) (d best)) (n + 1) best)
first_next d n best so_far = go (nat_lt (d (n + 1)) (d best)) refl
  where
    -- a number up to n + 1 is at most n, or is n + 1
    or_last : (m : ℕ) → m ≤ n + 1 → (m ≤ n) ⊎ (m ≡ n + 1)
    or_last m at_most = elim (cases_lt n m) [ inl a ↦ inr (omega (arith, a, at_most)) | inr b ↦ inl b ]

    -- the first least up to n + 1 is n + 1 if its duration is less than the least so far, else the one so far
    go : (b : Bool) → nat_lt (d (n + 1)) (d best) ≡ b → IsFirstLeast d (n + 1) (cond b (n + 1) best)
    go true passes =
        let less = ltb-true (d (n + 1)) (d best) passes in
        record {
          some = omega arith;
          few = omega arith;
          least = λ m some below. elim (or_last m below) [
            | inl m_below ↦ (let least_so_far = so_far.least m some m_below in omega (arith, least_so_far, less))
            | inr is_last ↦ (let same = ap d is_last in omega (arith, same))
          ];
          first = λ m some below. (let least_so_far = so_far.least m some (omega (arith, below)) in
              omega (arith, least_so_far, less));
        }
    go false fails =
        let no_less = ltb-false (d (n + 1)) (d best) fails in
        record {
          some = so_far.some;
          few = (let few_so_far = so_far.few in omega (arith, few_so_far));
          least = λ m some below. elim (or_last m below) [
            | inl m_below ↦ so_far.least m some m_below
            | inr is_last ↦ (let same = ap d is_last in omega (arith, same, no_less))
          ];
          first = so_far.first;
        }

-- choosing between equal numbers gives that number
same_either : (b : Bool) (x : ℕ) → cond b x x ≡ x
same_either true x = refl
same_either false x = refl

-- of one number of parts alone, 1 lasts least
one_first : (d : ℕ → ℕ) → IsFirstLeast d 1 1
one_first d = record {
  some = omega arith;
  few = omega arith;
  least = λ m some at_most_one.
      (let same = ap d (let is_one : m ≡ 1 = omega (arith, some, at_most_one) in is_one) in omega (arith, same));
  first = λ m some before_best. absurd (omega (arith, some, before_best));
}

-- With at least as many parts as units of work each part is one unit.
-- It is less than two units, since the parts would be longer than the work, and not none.
one_unit : (work parts : ℕ) → 1 ≤ work → work ≤ parts → div_ceil work parts ≡ 1
one_unit work parts some many =
    let whole = div_ceil_times work parts (omega (arith, some, many)) in
    elim (cases_lt (div_ceil work parts) 2) [
      | inl few ↦ elim (cases_lt (div_ceil work parts) 1) [
        | inl none ↦ (let nothing =
            ap (λ n. n * parts) (let is_zero : div_ceil work parts ≡ 0 = omega (arith, none) in is_zero) in
            absurd (omega (arith, nothing, whole.0, some)))
        | inr one ↦ omega (arith, few, one)
      ]
      | inr more ↦ (let twice = mul-le-mul_right {m = 2} {n = div_ceil work parts} parts more in
          absurd (omega (arith, twice, whole.1, many)))
    ]

-- given: a process, and how many faults its execution has
module _ (p : Process) (faults : ℕ) where
  -- the first of 1 to n that lasts least
  abbrev pub fewest : ℕ → ℕ
  fewest n = fold (shorter p faults) 1 (range_with_len 1 n)

  -- the last number of parts is compared last
  pub fewest_next : (n m : ℕ) → m ≡ n + 1 → fewest m ≡ shorter p faults (fewest n) m
  fewest_next n m is_next =
      ap fewest is_next ∙ (ap (λ xs. fold (shorter p faults) 1 xs) (range_push 1 n m (omega (arith, is_next)))
      ∙ fold_push (shorter p faults) 1 (range_with_len 1 n) m)

  -- the fold over the numbers up to m gives the first least of them; by induction
  fewest_first : (n m : ℕ) → m ≡ n + 1 → IsFirstLeast (duration_in p faults) m (fewest m)
  fewest_first zero m is_next =
      subst (λ k. IsFirstLeast (duration_in p faults) k (fewest k)) (sym is_next)
      (subst (λ b. IsFirstLeast (duration_in p faults) 1 b)
      (sym (same_either (nat_lt (duration_in p faults 1) (duration_in p faults 1)) 1))
      (one_first (duration_in p faults)))
  fewest_first (suc n) m is_next =
      subst (λ k. IsFirstLeast (duration_in p faults) k (fewest k)) (sym is_next)
      (subst (λ b. IsFirstLeast (duration_in p faults) (suc n + 1) b) (sym (fewest_next (suc n) (suc n + 1) refl))
      (first_next (duration_in p faults) (suc n) (fewest (suc n)) (fewest_first n (suc n) (omega arith))))

  -- the first number of parts that lasts least is the best one
  pub best_is_best : IsBest p faults (best_of p faults)
  unfolding best_of
  best_is_best = let first_least = fewest_first 254 255 refl in
      record { some = first_least.some; few = first_least.few; least = first_least.least; first = first_least.first }

  -- with at least as many parts as units of work, one part more saves no time
  no_shorter : (n : ℕ) → 1 ≤ p.wcet → p.wcet ≤ n → duration_in p faults n ≤ duration_in p faults (n + 1)
  no_shorter n some many =
      let more = mul-le-mul_right {m = n} {n = n + 1} (p.alpha + p.chi) (omega arith) in
      let same = ap (λ part. faults * (p.mu + part + p.alpha))
      (one_unit p.wcet n some many ∙ sym (one_unit p.wcet (n + 1) some (omega (arith, many)))) in
      omega (arith, more, same)

  -- Beyond as many parts as units of work the first that lasts least stays the same.
  -- By induction on how many beyond: one part more is no shorter, so it doesn't take the place.
  fewest_stays : (n : ℕ) → 1 ≤ p.wcet → p.wcet ≤ n → (k : ℕ) → fewest (n + k) ≡ fewest n
  fewest_stays n some many zero = ap fewest (let same : n + zero ≡ n = omega arith in same)
  fewest_stays n some many (suc k) =
      let least = (fewest_first (n + k - 1) (n + k) (omega (arith, some, many))).least (n + k)
      (omega (arith, some, many)) (omega arith) in
      let later = no_shorter (n + k) some (omega (arith, many)) in
      let next : n + suc k ≡ n + k + 1 = omega arith in
      ap fewest next ∙ fewest_next (n + k) (n + k + 1) refl
      ∙ ap (λ b. cond b (n + k + 1) (fewest (n + k))) (le-ltb (duration_in p faults (n + k + 1))
      (duration_in p faults (fewest (n + k))) (omega (arith, least, later)))
      ∙ fewest_stays n some many k

  -- the best number of parts is found among those up to the units of work
  pub best_is_fewest : (n : ℕ) → 1 ≤ p.wcet → n ≡ min p.wcet MOST_PARTS → fewest n ≡ best_of p faults
  unfolding best_of
  best_is_fewest n some is_least = elim (cases_lt p.wcet MOST_PARTS) [
    | inl few ↦ let all : n + (MOST_PARTS - n) ≡ MOST_PARTS = omega (arith, is_least, few) in
        sym (fewest_stays n some (omega (arith, is_least, few)) (MOST_PARTS - n)) ∙ ap fewest all
    | inr many ↦ ap fewest (let whole : n ≡ MOST_PARTS = omega (arith, is_least, many) in whole)
  ]

  -- one more number of parts, which lasts less than the best so far, or doesn't
  module _ (best parts : ℕ) (some : 1 ≤ parts) (is : best ≡ fewest (parts - 1)) where
    -- the fewest parts up to this number are the shorter of the best before and this one
    next_is : fewest parts ≡ shorter p faults best parts
    next_is = fewest_next (parts - 1) parts (omega (arith, some)) ∙ ap (λ b. shorter p faults b parts) (sym is)

    -- the number before the next is the number
    again : fewest parts ≡ fewest (parts + 1 - 1)
    again = let same : parts ≡ parts + 1 - 1 = omega arith in ap fewest same

    -- a number of parts that lasts less is the best so far
    pub takes_next : duration_in p faults parts < duration_in p faults best → parts ≡ fewest (parts + 1 - 1)
    takes_next less =
        sym (next_is ∙ ap (λ b. cond b parts best)
        (lt-ltb (duration_in p faults parts) (duration_in p faults best) less)) ∙ again

    -- a number of parts that doesn't last less leaves the best as it was
    pub keeps_best : duration_in p faults best ≤ duration_in p faults parts → best ≡ fewest (parts + 1 - 1)
    keeps_best no_less =
        sym (next_is ∙ ap (λ b. cond b parts best)
        (le-ltb (duration_in p faults parts) (duration_in p faults best) no_less)) ∙ again
