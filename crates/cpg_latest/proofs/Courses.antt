-- What a course knows are latest times, which are small, and its ends follow from each other.
use Rattle.std.proofs.Common.{◌≡◌, ◌∙◌, ℕ, zero, suc, ◌+◌, ◌==◌, ◌<◌, false, Bool, List, [], length, length-set, get_or}
use Rattle.std.proofs.Common.{set, Option, arith, refl, sym, inl, inr, subst, get_or-set_same}
use Rattle.std.proofs.Common.{get_or-set_other, eqb-true}
use Rattle.std.proofs.lemmas.List.{ext_get_or}
use Rattle.std.proofs.lemmas.Bool.{cases_eq, cases_Bool, cond-false}
use Rattle.cpg_base.specs.Graph.{Graph, condition_count}
use Rattle.cpg_base.specs.Limits.{IsWithinLimits}
use Rattle.cpg_order.specs.Urgency.{IsTopological}
use Rattle.cpg_run.specs.Run.{Times, time_in}
use Rattle.cpg_run.specs.Known.{AreEarly, AreSmall}
use Rattle.cpg_run.specs.Progress.{IsAt, ProgressState}
use Rattle.cpg_latest.specs.Latest.{with_faults, latest_end}
use Rattle.cpg_latest.specs.Course.{ForLatest, IsCourse, last_end, end_after}
use Rattle.cpg_latest.proofs.EndSteps.{end_zero, end_suc}
use Rattle.cpg_latest.proofs.LateSmall.{late_small}
use Rattle.cpg_latest.proofs.LatestExists.{the_latest, latest_exist}
use Rattle.cpg_latest.proofs.TimedStarts.{known_small}

-- setting the number at a place to what it is leaves the list as it is: both have the same number at each place
pub set_same : (xs : List ℕ) (i : ℕ) → i < length xs → xs ≡ set xs i (get_or xs i 0)
set_same xs i within =
    ext_get_or 0 xs (set xs i (get_or xs i 0)) (sym (length-set xs i (get_or xs i 0))) (λ j k. elim (cases_eq j i) [
      | inl e ↦ subst (λ m. get_or xs m 0 ≡ get_or (set xs i (get_or xs i 0)) m 0) (sym e)
          (sym (get_or-set_same xs i (get_or xs i 0) 0 within))
      | inr other ↦ sym (get_or-set_other xs i j (get_or xs i 0) 0 other)
    ])

-- of two numbers set at one place the later one stays: both lists have the same number at each place
pub set_twice : (xs : List ℕ) (i a b : ℕ) → i < length xs → set (set xs i a) i b ≡ set xs i b
set_twice xs i a b within = ext_get_or 0 (set (set xs i a) i b) (set xs i b)
    (length-set (set xs i a) i b ∙ length-set xs i a ∙ sym (length-set xs i b)) (λ j k. elim (cases_eq j i) [
      | inl e ↦ subst (λ m. get_or (set (set xs i a) i b) m 0 ≡ get_or (set xs i b) m 0) (sym e)
          (get_or-set_same (set xs i a) i b 0 (omega (arith, within, length-set xs i a))
          ∙ sym (get_or-set_same xs i b 0 within))
      | inr other ↦ get_or-set_other (set xs i a) i j b 0 other ∙ get_or-set_other xs i j a 0 other
          ∙ sym (get_or-set_other xs i j b 0 other)
    ])

-- given: an outcome (`values`), and the frozen times so far
module _ (g : Graph) (order : List ℕ) (topological : IsTopological g order) (Done : ℕ → Type 0)
    (frozen : List (Option ℕ)) (values : List Bool) where
  -- a fact that holds whatever frozen times follow holds of the latest times under those so far
  pub so_far : (P : (ℕ → Times) → Type 0) → ForLatest g order Done frozen values P →
      P (the_latest g order frozen values topological)
  so_far P f = f frozen (λ x l d. refl) (the_latest g order frozen values topological)
      (latest_exist g order frozen values topological)

  -- given: a graph within its limits, early frozen times, and a number of faults
  module _ (within : IsWithinLimits g) (long : length values ≡ condition_count g) (early : AreEarly frozen) (n : ℕ)
      (few : n < g.faults + 1) where
    -- the latest times are below 2 ^ 59
    pub latest_small : AreSmall (the_latest g order frozen values topological n)
    latest_small = late_small g order frozen values (the_latest g order frozen values topological) within topological
        long early (latest_exist g order frozen values topological) n (omega arith)

    -- the times and ends that a course knows are small, as they are latest times
    pub course_small : (i : ℕ) (c : ProgressState) → IsCourse g order Done frozen values i n c → AreSmall c.known
    course_small i c a =
        let at = so_far (λ late. IsAt g order (with_faults values []) (late n) i c.known c.ready c.free) a.at in
        known_small g order (the_latest g order frozen values topological n) i c.known at.knows a.places.times
        a.places.ends latest_small

-- the test for 0 fails on a number above 0
pub some_faults : (n : ℕ) → (suc n == 0) ≡ false
some_faults n =
    elim (cases_Bool (suc n == 0)) [
      | inl e ↦
          absurd (let is_zero = eqb-true (suc n) 0 e in omega (arith, is_zero))
      | inr e ↦ e
    ]

-- the latest end with n faults follows from the latest start with n faults and from the latest end with one less
pub end_next : (g : Graph) (late : ℕ → Times) (n p : ℕ) →
    latest_end g late n p ≡ end_after g p n (time_in (late n) p) (last_end g late n p)
unfolding last_end
end_next g late zero p = end_zero g late p
end_next g late (suc n) p = end_suc g late p n ∙ sym (cond-false _ _ _ (some_faults n))
