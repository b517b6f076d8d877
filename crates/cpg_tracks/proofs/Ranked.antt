-- The order by rests is the order by keys.
use Rattle.std.proofs.Common.{ℕ, ◌+◌, ◌-◌, ◌^◌, ◌≡◌, ◌<◌, ◌++◌, ◌∷◌, [], inl, inr, true, List, length, get_or, Contains}
use Rattle.std.proofs.Common.{IsPermutation, arith, sym, ap, ◌∙◌, subst, ltb, ◌||◌, ◌&&◌, ◌==◌, ltb-true}
use Rattle.std.proofs.Common.{eqb-true}
use Rattle.std.specs.List.{AllPairs}
use Rattle.std.proofs.lemmas.Grind.{common_steps}
use Rattle.std.proofs.lemmas.Bool.{cases_order, or_cases, and_parts}
use Rattle.std.proofs.lemmas.List.Elements.{Contains-get_or}
use Rattle.cpg_base.specs.Numbers.{numbers_below}
use Rattle.cpg_base.proofs.Places.{from_order}
use Rattle.cpg_order.specs.Ranking.{AreRanked}
use Rattle.cpg_tracks.specs.Rests.{AreRests, AreRestsUpTo}
use Rattle.cpg_tracks.specs.Tracks.{is_ahead}
use Rattle.cpg_tracks.proofs.TrackOrders.{ahead_by_key, ahead_by_number}

-- the earlier numbers stay when one is added at the end
pub rest_more : (rests : List ℕ) (p rest : ℕ) → p < length rests → get_or (rests ++ rest ∷ []) p 0 ≡ get_or rests p 0
rest_more rests p rest inside = grind (arith, common_steps)

-- one rest more makes the list one longer
count_more : (rests : List ℕ) (rest : ℕ) → length (rests ++ rest ∷ []) ≡ length rests + 1
count_more rests rest = grind (arith, common_steps)

-- the rest that was added last is read at the end
pub rest_last : (rests : List ℕ) (rest : ℕ) → get_or (rests ++ rest ∷ []) (length rests) 0 ≡ rest
rest_last rests rest = grind (arith, common_steps)

-- given: processes ranked by how far their keys are from the greatest number
module _ (keys rests order : List ℕ) (are : AreRests keys rests) (ranked : AreRanked rests order) where
  -- processes ranked by their rests are all processes
  pub all_ranked : IsPermutation (numbers_below (length keys)) order
  all_ranked = subst (λ n. IsPermutation (numbers_below n) order) are.count ranked.all

  -- A lower key is farther from the greatest number.
  -- A key and its rest always add up to the same number, so a greater rest is a lower key.
  ahead : (p q : ℕ) → p < length keys → q < length keys →
      (ltb (get_or rests q 0) (get_or rests p 0) || ((get_or rests p 0 == get_or rests q 0) && ltb p q)) ≡ true →
      is_ahead keys p q ≡ true
  ahead p q p_inside q_inside goes_first = elim (or_cases (ltb (get_or rests q 0) (get_or rests p 0))
      ((get_or rests p 0 == get_or rests q 0) && ltb p q) goes_first) [
        | inl far ↦ ahead_by_key keys p q
            (omega (
              arith,
              are.each p p_inside,
              are.each q q_inside,
              ltb-true (get_or rests q 0)
                  (get_or rests p 0) far,
            ))
        | inr by_number ↦
            let parts = and_parts (get_or rests p 0 == get_or rests q 0) (ltb p q) by_number in
            ahead_by_number keys p q
            (omega (
              arith,
              are.each p p_inside,
              are.each q q_inside,
              eqb-true (get_or rests p 0)
                  (get_or rests q 0) parts.0,
            ))
            (ltb-true p q parts.1)
      ]

  -- processes ranked by their rests rise by key
  pub rising_by_key : AllPairs (λ p q. is_ahead keys p q ≡ true) order
  rising_by_key i j d i_before_j j_inside =
      let within : (p : ℕ) → Contains order p → p < length keys = from_order (length keys) order all_ranked in
      ahead (get_or order i d) (get_or order j d) (within (get_or order i d) (Contains-get_or order i d (omega arith)))
      (within (get_or order j d) (Contains-get_or order j d j_inside))
      (ranked.falling i j d i_before_j j_inside)

-- With one number more, the distances of all numbers so far are known.
-- p is the new place, or one before it.
pub rests_more : (keys rests next : List ℕ) (n rest : ℕ) → AreRestsUpTo keys n rests →
    rest + get_or keys n 0 ≡ 2 ^ 64 - 1 → next ≡ rests ++ rest ∷ [] →
    AreRestsUpTo keys (n + 1) next
rests_more keys rests next n rest are is is_next = record {
  count = omega (arith, ap length is_next, count_more rests rest, are.count);
  each = λ p below. elim (cases_order p n) [
    | inl same ↦ omega (
      arith,
      ap (λ xs. get_or xs p 0) is_next,
      ap (λ k. get_or (rests ++ rest ∷ []) k 0) (same ∙ sym are.count),
      ap (λ k. get_or keys k 0) same,
      rest_last rests rest,
      is,
    )
    | inr (inl earlier) ↦
        omega (
          arith,
          ap (λ xs. get_or xs p 0) is_next,
          rest_more rests p rest
              (omega (arith, are.count)),
          are.each p earlier,
        )
    | inr (inr later) ↦ absurd (omega (arith, below, later))
  ];
}
