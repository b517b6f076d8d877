-- Which scenarios lie in a space, and on which side of a cut. In the lemmas v is a variable, and s a scenario.
use Rattle.std.proofs.Common.{rules, ℕ, ◌+◌, ◌-◌, ◌<◌, ◌≤◌, ◌≡◌, ◌≢◌, Bool, true, false, ◌||◌, nat_lt, List, get_or}
use Rattle.std.proofs.Common.{sum_by, length, arith, refl, sym, ap, ◌∙◌, subst, inl, inr, lt-ltb, le-ltb}
use Rattle.std.specs.Prelude.{nat_le, slice_set}
use Rattle.std.specs.Bool.{OnFalse}
use Rattle.std.proofs.lemmas.Bool.{cases_lt, cases_eq, or_parts, cond-true, cond-false, leb-true, le-leb, both_ways}
use Rattle.std.proofs.lemmas.List.{get_or-set_same, get_or-set_other}
use Rattle.cpg_base.specs.Numbers.{numbers_below}
use Rattle.cpg_base.specs.Scenario.{number_of_value, Scenario, number_of, fault_of}
use Rattle.cpg_base.proofs.Lists.{numbers-Contains, Contains-numbers}
use Rattle.cpg_base.proofs.NumbersOf.{number_of-fault, number_of_value-le}
use Rattle.cpg_base.proofs.Sums.{le-sum_by, sum_changed, same_sum_by}
use Rattle.cpg_base.specs.Variable.{top}
use Rattle.cpg_tree.specs.Space.{Space, IsInSpace, HasAtMostFaults, beyond, is_open_below, below_cut, above_cut}

-- a number that is not less than another is at least that one
pub not_less : (a b : ℕ) → nat_lt a b ≡ false → b ≤ a
not_less a b is_false = elim (cases_lt a b) [
  | inl less ↦ absurd (both_ways (nat_lt a b) is_false (lt-ltb a b less))
  | inr other ↦ other
]

-- given: a scenario of a space, and a cut of one of the 256 variables
module _ (space : Space) (s : Scenario) (lies : IsInSpace space s) (v cut : ℕ) (there : v < 256) where
  -- a count goes no further beyond its low than faults are left
  pub count_le : v < 128 → number_of s v ≤ get_or space.low v 0 + space.left
  count_le is_count =
      let one = le-sum_by (beyond space s) (numbers_below 128) v (Contains-numbers 128 v is_count) in
      omega (arith, one, lies.left, number_of-fault s v is_count)

  -- if no number up to the cut is in range, the scenario's number is above the cut
  pub none_below : is_open_below space v cut ≡ false → cut < number_of s v
  none_below not_open = let its_low = lies.low v there in elim (cases_lt cut (get_or space.low v 0)) [
    | inl low_above ↦ omega (arith, its_low, low_above)
    | inr low_under ↦ absurd (both_ways (is_open_below space v cut) not_open
        (le-leb (get_or space.low v 0) cut low_under))
  ]

  -- if no number above the cut is in range, or no faults are left for one, the scenario's number is at most the cut
  pub none_by_range : nat_lt cut (get_or space.high v 0) ≡ false → number_of s v ≤ cut
  none_by_range fails = omega (arith, lies.high v there, not_less cut (get_or space.high v 0) fails)

  -- if the faults don't suffice for a number above the cut, there is none
  pub none_by_faults : (nat_le 128 v || nat_lt cut (get_or space.low v 0 + space.left)) ≡ false → number_of s v ≤ cut
  -- a value takes no faults, so the test holds; a count is at most its low and the faults left
  none_by_faults fails =
      let parts = or_parts (nat_le 128 v) (nat_lt cut (get_or space.low v 0 + space.left)) fails in
      elim (cases_lt v 128) [
        | inl is_count ↦ omega (arith, count_le is_count, not_less cut (get_or space.low v 0 + space.left) parts.1)
        | inr is_value ↦ absurd (both_ways (nat_le 128 v) parts.0 (le-leb 128 v is_value))
      ]

-- ---- a list with one number changed

-- if the low of one count rises, the faults beyond the lows fall by as much
fewer_left : (new old low cut faults left : ℕ) → new + (faults - low) ≡ old + (faults - (cut + 1)) → old ≤ left →
    low ≤ cut → cut < faults →
    new ≤ left - (cut + 1 - low)
fewer_left new old low cut faults left changed most below above = omega arith

-- given: a list in which place v is set to y, and a place u
module _ (xs : List ℕ) (v y u : ℕ) where
  -- if one number of a list is set, the others stay as they are
  pub set_other : u ≢ v → get_or (slice_set xs v y) u 0 ≡ get_or xs u 0
  set_other other = get_or-set_other xs v u y 0 other

  -- a number that is set in a list stands there
  pub set_same : v < length xs → u ≡ v → get_or (slice_set xs v y) u 0 ≡ y
  set_same inside is_v = subst (λ w. get_or (slice_set xs v y) w 0 ≡ y) (sym is_v) (get_or-set_same xs v y 0 inside)

-- a number that is at most the faults left still is if none of these is taken
none_less : (n left : ℕ) → n ≤ left → n ≤ left - 0
none_less n left within = omega arith

-- given: a scenario of a space, and a cut of one of the 256 variables
module _ (space : Space) (s : Scenario) (lies : IsInSpace space s) (v cut : ℕ) (there : v < 256) where
  -- a scenario whose number is at most the cut lies in the space below it
  pub lies_below : length space.high ≡ 256 → number_of s v ≤ cut → IsInSpace (below_cut space v cut) s
  -- the number of v is at most the cut, its new high; the highs of other variables stay
  lies_below long at_most = record {
    low = lies.low;
    high = λ u small. elim (cases_eq u v) [
      | inl is_v ↦ omega (
        arith,
        set_same space.high v cut u (omega (arith, long, there)) is_v,
        at_most,
        ap (number_of s) is_v,
      )
      | inr other ↦ omega (arith, set_other space.high v cut u other, lies.high u small)
    ];
    left = lies.left;
  }

  -- a scenario whose number is above the cut lies in the space above it
  pub lies_above : length space.low ≡ 256 → is_open_below space v cut ≡ true → cut < number_of s v →
      IsInSpace (above_cut space v cut) s
  -- The number of v is above the cut, so at least the new low; other lows stay. If v is a count, its faults beyond the
  -- low are fewer by just those that are no longer left; if it is a value, none change.
  lies_above long under past_cut = record {
    low = λ u small. elim (cases_eq u v) [
      | inl is_v ↦ omega (
        arith,
        set_same space.low v (cut + 1) u (omega (arith, long, there)) is_v,
        past_cut,
        ap (number_of s) is_v,
      )
      | inr other ↦ omega (arith, set_other space.low v (cut + 1) u other, lies.low u small)
    ];
    high = lies.high;
    left = elim (cases_lt v 128) [
      | inl is_count ↦
          let changed = sum_changed (beyond (above_cut space v cut) s) (beyond space s) 128 v is_count
          (λ u other. ap (λ m. fault_of s u - m) (set_other space.low v (cut + 1) u other)) in
          let here = ap (λ m. sum_by (beyond space s) (numbers_below 128) + (fault_of s v - m))
          (set_same space.low v (cut + 1) v (omega (arith, long, there)) refl) in
          subst (λ n. sum_by (beyond (above_cut space v cut) s) (numbers_below 128) ≤ space.left - n)
          (sym (cond-true (nat_lt v 128) (cut + 1 - get_or space.low v 0) 0 (lt-ltb v 128 is_count)))
          (fewer_left _ _ (get_or space.low v 0) cut (fault_of s v) space.left (changed ∙ here) lies.left
          (leb-true (get_or space.low v 0) cut under) (subst (λ n. cut < n) (number_of-fault s v is_count) past_cut))
      | inr is_value ↦
          let same = same_sum_by (beyond (above_cut space v cut) s) (beyond space s) (numbers_below 128)
          (λ u listed. ap (λ m. fault_of s u - m)
          (set_other space.low v (cut + 1) u (λ is_v. omega (arith, numbers-Contains 128 u listed, is_v, is_value)))) in
          subst (λ n. sum_by (beyond (above_cut space v cut) s) (numbers_below 128) ≤ space.left - n)
          (sym (cond-false (nat_lt v 128) (cut + 1 - get_or space.low v 0) 0 (le-ltb v 128 is_value)))
          (subst (λ n. n ≤ space.left - 0) (sym same) (none_less _ space.left lies.left))
    ];
  }

-- a scenario above a cut lies in the space that was closed above a high, opened again, and closed below the cut
pub lies_reopened : (space shut inner opened upper : Space) (v high cut : ℕ) → below_cut shut v high ≡ space →
    inner ≡ shut →
    opened ≡ below_cut inner v high →
    ((s : Scenario) → IsInSpace opened s → cut < number_of s v → IsInSpace upper s) →
    (s : Scenario) → IsInSpace space s → cut < number_of s v → IsInSpace upper s
lies_reopened space shut inner opened upper v high cut back same put lies_upper s lies past_cut =
    lies_upper s (subst (λ r. IsInSpace r s) (sym (put ∙ ap (λ r. below_cut r v high) same ∙ back)) lies) past_cut

-- the space above the cut is then the same as that above the cut of the space given
pub above_reopened : (space shut inner opened upper : Space) (v high cut : ℕ) → below_cut shut v high ≡ space →
    inner ≡ shut → opened ≡ below_cut inner v high →
    upper ≡ above_cut opened v cut →
    upper ≡ above_cut space v cut
above_reopened space shut inner opened upper v high cut back same reopened closed =
    closed ∙ ap (λ (r : Space). above_cut r v cut) (reopened ∙ ap (λ (r : Space). below_cut r v high) same ∙ back)

-- ---- all scenarios of at most k faults

-- given: a scenario s of at most k faults
module _ (k : ℕ) (s : Scenario) (few : HasAtMostFaults k s) where
  -- no process has more faults than there are
  count_few : (p : ℕ) → p < 128 → fault_of s p ≤ k
  count_few p is_count = omega (
    arith,
    le-sum_by (fault_of s) (numbers_below 128) p (Contains-numbers 128 p is_count),
    few,
  )

  -- no number is above the greatest of its variable
  pub number_le_top : (v : ℕ) → number_of s v ≤ top k v
  -- a count is at most the faults in all, which are at most k; a value is at most 1
  number_le_top v = elim (cases_lt v 128) [
    | inl is_count ↦ omega (
      arith,
      number_of-fault s v is_count,
      count_few v is_count,
      cond-true (nat_lt v 128) k 1 (lt-ltb v 128 is_count),
    )
    | inr is_value ↦ omega (
      arith,
      cond-false (nat_lt v 128) (fault_of s v) (number_of_value (get_or s.values (v - 128) false))
          (le-ltb v 128 is_value),
      number_of_value-le (get_or s.values (v - 128) false),
      cond-false (nat_lt v 128) k 1 (le-ltb v 128 is_value),
    )
  ]

  -- a scenario of at most k faults lies in a space with all ranges and k faults left
  pub lies_whole : (space : Space) → ((v : ℕ) → v < 256 → get_or space.low v 0 ≡ 0) →
      ((v : ℕ) → v < 128 → get_or space.high v 0 ≡ k) →
      ((v : ℕ) → 128 ≤ v → v < 256 → get_or space.high v 0 ≡ 1) →
      space.left ≡ k → IsInSpace space s
  -- each count is at most k, and each value at most 1; beyond the lows, which are 0, there are all the scenario's
  -- faults
  lies_whole space lows counts values left = record {
    low = λ v small. omega (arith, lows v small);
    high = λ v small. elim (cases_lt v 128) [
      | inl is_count ↦ omega (arith, counts v is_count, number_of-fault s v is_count, count_few v is_count)
      | inr is_value ↦ omega (
        arith,
        values v is_value small,
        cond-false (nat_lt v 128) (fault_of s v) (number_of_value (get_or s.values (v - 128) false))
            (le-ltb v 128 is_value),
        number_of_value-le (get_or s.values (v - 128) false),
      )
    ];
    left = omega (
      arith,
      same_sum_by (beyond space s) (fault_of s) (numbers_below 128)
          (λ p listed. omega (arith, lows p (omega (arith, numbers-Contains 128 p listed)))),
      few,
      left,
    );
  }

-- what follows from a test that is false holds if it is false
pub on_false : {P : Type 0} (b : Bool) → (b ≡ false → P) → OnFalse b P
on_false true follows = search rules
on_false false follows = follows refl
