-- How the latest end with n + 1 faults follows from that with n: the execution has no fault of its own, or one more than an
-- execution with n faults.
use Rattle.std.proofs.Common.{◌≡◌, ℕ, zero, suc, ◌+◌, ◌-◌, ◌≤◌, max, map, arith, ap, subst, suc-mul}
use Rattle.cpg_base.specs.Duration.{duration}
use Rattle.cpg_base.specs.Graph.{Graph}
use Rattle.cpg_base.specs.Numbers.{numbers_below}
use Rattle.cpg_base.proofs.Lists.{Contains-map, Contains-map_parts, Contains-numbers, numbers-Contains, greatest_above}
use Rattle.cpg_base.proofs.Lists.{greatest-le}
use Rattle.cpg_run.specs.Run.{Times, time_in}
use Rattle.cpg_latest.specs.Latest.{fault_delay, end_with, latest_end}

-- one fault more makes an execution longer by the same time
pub duration_suc : (g : Graph) (p j : ℕ) → duration g p (suc j) ≡ duration g p j + fault_delay g p
duration_suc g p j = omega (arith, suc-mul j (fault_delay g p))

module _ (g : Graph) (late : ℕ → Times) (p : ℕ) where
  -- an end with j of n faults of its own is no later than the latest end with n
  among : (n j : ℕ) → j ≤ n → end_with g late n p j ≤ latest_end g late n p
  among n j at_most = greatest_above (map (end_with g late n p) (numbers_below (n + 1))) (end_with g late n p j)
      (Contains-map (end_with g late n p) (numbers_below (n + 1)) j
      (Contains-numbers (n + 1) j (omega (arith, at_most))))

  -- a bound of the ends with each number of own faults bounds the latest end
  no_more : (n b : ℕ) → ((j : ℕ) → j ≤ n → end_with g late n p j ≤ b) → latest_end g late n p ≤ b
  no_more n b bounds = greatest-le (map (end_with g late n p) (numbers_below (n + 1))) b
      (λ v there. let own_faults = Contains-map_parts (end_with g late n p) (numbers_below (n + 1)) v there in
      let within = numbers-Contains (n + 1) own_faults.0 own_faults.1 in
      subst (λ m. m ≤ b) own_faults.2 (bounds own_faults.0 (omega (arith, within))))

  -- without own faults an execution ends a duration after the latest start
  none_of_it : (n : ℕ) → end_with g late n p 0 ≡ time_in (late n) p + duration g p 0
  none_of_it n = let same : n - 0 ≡ n = omega arith in omega (arith, ap (λ m. time_in (late m) p) same)

  -- without faults the latest end is the start and the execution
  pub end_zero : latest_end g late 0 p ≡ time_in (late 0) p + duration g p 0
  end_zero = omega (
    arith,
    none_of_it 0,
    among 0 0 (omega arith),
    no_more 0 (time_in (late 0) p + duration g p 0)
        (λ j at_most. below j at_most),
  )
    where
      -- 0 is the only number of own faults up to 0
      below : (j : ℕ) → j ≤ 0 → end_with g late 0 p j ≤ time_in (late 0) p + duration g p 0
      below zero at_most = omega (arith, none_of_it 0)
      below (suc j) at_most = absurd (omega (arith, at_most))

  -- one fault more, and that an own one, makes an execution end later by what each fault adds
  later_by : (n j : ℕ) → j ≤ n → end_with g late (suc n) p (suc j) ≡ end_with g late n p j + fault_delay g p
  later_by n j at_most = let same : suc n - suc j ≡ n - j = omega arith in
      omega (arith, ap (λ m. time_in (late m) p) same, duration_suc g p j)

  -- The latest end with n + 1 faults is the later of the end without own faults, and of the latest end with n and one fault
  -- more. It is no later, since each end is one of these (`whole`), and no earlier (`others` and the end without own faults).
  pub end_suc : (n : ℕ) →
      latest_end g late (suc n) p ≡ max (time_in (late (suc n)) p + duration g p 0) (latest_end g late n p + fault_delay g p)
  end_suc n = omega (arith, none_of_it (suc n), among (suc n) 0 (omega arith), others, whole)
    where
      -- each end with n + 1 faults is that without own faults, or has one own fault more than an end with n
      whole : latest_end g late (suc n) p
          ≤ max (time_in (late (suc n)) p + duration g p 0) (latest_end g late n p + fault_delay g p)
      whole =
          no_more (suc n) (max (time_in (late (suc n)) p + duration g p 0) (latest_end g late n p + fault_delay g p)) below
        where
          -- by whether the end has own faults
          below : (j : ℕ) → j ≤ suc n →
              end_with g late (suc n) p j
              ≤ max (time_in (late (suc n)) p + duration g p 0) (latest_end g late n p + fault_delay g p)
          below zero at_most = omega (arith, none_of_it (suc n))
          below (suc j) at_most = omega (
            arith,
            later_by n j (omega (arith, at_most)),
            among n j (omega (arith, at_most)),
          )

      -- the latest end with n + 1 faults is later than that with n by at least what one fault adds
      others : latest_end g late n p + fault_delay g p ≤ latest_end g late (suc n) p
      others =
          let bound = no_more n (latest_end g late (suc n) p - fault_delay g p)
          (λ j at_most. omega (arith, later_by n j at_most, among (suc n) (suc j) (omega (arith, at_most)))) in
          omega (arith, bound, later_by n 0 (omega arith), among (suc n) 1 (omega arith))
