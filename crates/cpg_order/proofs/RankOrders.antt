-- Ranks that are sorted, and the urgency order that they give.
use Rattle.std.proofs.Common.{ℕ, zero, suc, ◌+◌, ◌-◌, ◌<◌, ◌≤◌, ◌≡◌, ◌≢◌, ◌⊎◌, inl, inr, true, false, List, [], ◌∷◌}
use Rattle.std.proofs.Common.{length, get_or, map, All, Contains, IsPermutation, arith, refl, sym, ap, ◌∙◌}
use Rattle.std.proofs.Common.{subst, subst₂, nat_cmp, is_lt, ltb, ◌||◌, ◌&&◌, ◌==◌}
use Rattle.std.specs.List.{AllPairs}
use Rattle.std.specs.Ordering.{ordering_then}
use Rattle.std.proofs.lemmas.Grind.{common_steps}
use Rattle.std.proofs.lemmas.List.{get_or_default, get_or-map, length-map}
use Rattle.std.proofs.lemmas.List.Sorted.{IsPermutation-map, All-permutation}
use Rattle.std.proofs.lemmas.List.FromFn.{length-map-range_with_len}
use Rattle.std.proofs.lemmas.List.Elements.{Contains-get_or}
use Rattle.cpg_base.specs.Numbers.{numbers_below}
use Rattle.cpg_base.specs.Graph.{Graph, process_count}
use Rattle.cpg_base.proofs.Lists.{get_or-map-below}
use Rattle.cpg_base.proofs.Pairs.{order_apart}
use Rattle.cpg_order.specs.declared.urgency_order.UrgencyRank.{UrgencyRank}
use Rattle.cpg_order.specs.Ranks.{rank_of}
use Rattle.cpg_order.specs.Ranking.{goes_first, AreRanked}
use Rattle.cpg_order.specs.Urgency.{tail, IsUrgencyOrder}
use Rattle.cpg_base.proofs.Places.{from_order}
use Rattle.cpg_order.proofs.Urgent.{first_from_more, first_from_place, first_chain}

-- a relation between neighbours holds of all pairs if it goes on
module _ (R : ℕ → ℕ → Type 0) (chain : (p q r : ℕ) → R p q → R q r → R p r) (xs : List ℕ)
    (next : (k : ℕ) → k + 1 < length xs → R (get_or xs k 0) (get_or xs (k + 1) 0)) where
  -- what relates neighbours relates any two, the first before the second
  ahead : (gap i : ℕ) → i + gap + 1 < length xs → R (get_or xs i 0) (get_or xs (i + gap + 1) 0)
  ahead zero i inside = subst (λ k. R (get_or xs i 0) (get_or xs k 0)) (let same : i + 1 ≡ i + zero + 1 = omega arith in
      same) (next i (omega arith))
  ahead (suc gap) i inside =
      chain (get_or xs i 0) (get_or xs (i + gap + 1) 0) (get_or xs (i + suc gap + 1) 0) (ahead gap i (omega arith))
      (subst (λ k. R (get_or xs (i + gap + 1) 0) (get_or xs k 0))
      (let same : i + gap + 1 + 1 ≡ i + suc gap + 1 = omega arith in same) (next (i + gap + 1) (omega arith)))

  -- what holds of all neighbours, and goes on from pair to pair, holds of all pairs
  pub all_pairs_from_next : AllPairs R xs
  all_pairs_from_next i j d i_before_j j_inside = subst₂ R (get_or_default xs i 0 d (omega arith))
      (get_or_default xs j 0 d j_inside)
      (subst (λ k. R (get_or xs i 0) (get_or xs k 0)) (let same : i + (j - i - 1) + 1 ≡ j = omega arith in
      same) (ahead (j - i - 1) i (omega arith)))

-- of two ranks in order the first has the longer way, or the same way and no greater number
pub in_order : (a b p q : ℕ) → is_lt (ordering_then (nat_cmp a b) (nat_cmp q p)) ≡ false → (b < a) ⊎ ((a ≡ b) × (p ≤ q))
in_order a b p q not_less = grind (arith, common_steps)

-- the processes of the ranks of the processes xs are xs
processes_of_ranks : (tails xs : List ℕ) → map (λ r. r.process) (map (rank_of tails) xs) ≡ xs
processes_of_ranks tails [] = refl
processes_of_ranks tails (x ∷ xs) = ap (λ ys. x ∷ ys) (processes_of_ranks tails xs)

-- given: the ranks of all processes by their tails, sorted in some way
module _ (tails : List ℕ) (sorted : List UrgencyRank)
    (permutes : IsPermutation (map (rank_of tails) (numbers_below (length tails))) sorted) where
  -- the sorted ranks are of all processes
  all : IsPermutation (numbers_below (length tails)) (map (λ r. r.process) sorted)
  all = subst (λ xs. IsPermutation xs (map (λ r. r.process) sorted))
      (processes_of_ranks tails (numbers_below (length tails))) (IsPermutation-map (λ r. r.process) _ sorted permutes)

  -- each rank has the tail of its process
  tail_of_rank : All (λ (r : UrgencyRank). r.tail.0 ≡ get_or tails r.process 0) sorted
  tail_of_rank = All-permutation (λ (r : UrgencyRank). r.tail.0 ≡ get_or tails r.process 0)
      (map (rank_of tails) (numbers_below (length tails))) sorted permutes
      (λ k d inside. subst (λ (r : UrgencyRank). r.tail.0 ≡ get_or tails r.process 0)
      (sym (get_or-map (rank_of tails) (numbers_below (length tails)) k 0 d
      (omega (arith, length-map (numbers_below (length tails)) (rank_of tails))))) refl)

  -- Of two neighbours in the sorted ranks the first goes first.
  -- The tails in the ranks are those of their processes, and the two processes differ, since none stands twice.
  one_after : (k : ℕ) (r s : UrgencyRank) → k + 1 < length sorted → r ≡ get_or sorted k r →
      s ≡ get_or sorted (k + 1) r →
      (s.tail.0 < r.tail.0) ⊎ ((r.tail.0 ≡ s.tail.0) × (r.process ≤ s.process)) →
      goes_first tails r.process s.process ≡ true
  one_after k r s next_inside is next order =
      let tail_of_r : r.tail.0 ≡ get_or tails r.process 0 =
      subst (λ (x : UrgencyRank). x.tail.0 ≡ get_or tails x.process 0) (sym is) (tail_of_rank k r (omega arith)) in
      let tail_of_s : s.tail.0 ≡ get_or tails s.process 0 =
      subst (λ (x : UrgencyRank). x.tail.0 ≡ get_or tails x.process 0) (sym next)
      (tail_of_rank (k + 1) r next_inside) in
      let at : (i : ℕ) → i < length sorted →
      get_or (map (λ (x : UrgencyRank). x.process) sorted) i 0 ≡ (get_or sorted i r).process =
      λ i inside. get_or-map (λ (x : UrgencyRank). x.process) sorted i r 0 inside in
      let apart : r.process ≢ s.process =
      λ same. order_apart (length tails) (map (λ (x : UrgencyRank). x.process) sorted) all k (k + 1) 0 (omega arith)
      (omega (arith, length-map sorted (λ (x : UrgencyRank). x.process)))
      (at k (omega arith) ∙ ap (λ (x : UrgencyRank). x.process) (sym is) ∙ same
      ∙ ap (λ (x : UrgencyRank). x.process) next
      ∙ sym (at (k + 1) next_inside)) in
      elim order [
        | inl longer ↦
            first_from_more (get_or tails r.process 0) (get_or tails s.process 0) r.process s.process (omega arith)
        | inr (same_tail, lower) ↦ first_from_place (get_or tails r.process 0)
            (get_or tails s.process 0) r.process s.process
            (omega arith) (omega arith)
      ]

  -- The processes of sorted ranks are ranked: a longer way first, and of equal ones the lower number.
  -- The order is transitive, so it is enough that each goes before its neighbour.
  pub ranked_from_sorted : ((k : ℕ) (d : UrgencyRank) → k + 1 < length sorted →
      ((get_or sorted (k + 1) d).tail.0 < (get_or sorted k d).tail.0) ⊎
      (((get_or sorted k d).tail.0 ≡ (get_or sorted (k + 1) d).tail.0) ×
      ((get_or sorted k d).process ≤ (get_or sorted (k + 1) d).process)))
      → AreRanked tails (map (λ r. r.process) sorted)
  ranked_from_sorted next = record {
    all = all;
    falling = all_pairs_from_next (λ p q. goes_first tails p q ≡ true)
        (λ p q r. first_chain (get_or tails p 0) (get_or tails q 0) (get_or tails r 0) p q r)
        (map (λ r. r.process) sorted)
        (λ k inside.
        let next_inside : k + 1 < length sorted = omega (arith, length-map sorted (λ (x : UrgencyRank). x.process)) in
        let first_rank : UrgencyRank = get_or sorted k (rank_of tails 0) in
        let second_rank : UrgencyRank = get_or sorted (k + 1) first_rank in
        let is : first_rank ≡ get_or sorted k first_rank = get_or_default sorted k (rank_of tails 0) first_rank
        (omega arith) in
        subst₂ (λ p q. goes_first tails p q ≡ true)
        (sym (get_or-map (λ (x : UrgencyRank). x.process) sorted k (rank_of tails 0) 0 (omega arith)))
        (sym (get_or-map (λ (x : UrgencyRank). x.process) sorted (k + 1) first_rank 0 next_inside))
        (one_after k first_rank second_rank next_inside is refl
        (subst (λ (x : UrgencyRank). (second_rank.tail.0 < x.tail.0) ⊎
        ((x.tail.0 ≡ second_rank.tail.0) × (x.process ≤ second_rank.process)))
        (sym is) (next k first_rank next_inside))));
  }

-- ---- the urgency order

-- Processes ranked by their tails are in urgency order.
-- The tail at each process is the graph's, so both orders compare the same numbers.
pub urgency_from_ranks : (g : Graph) (tails order : List ℕ) → tails ≡ map (tail g) (numbers_below (process_count g)) →
    AreRanked tails order →
    IsUrgencyOrder g order
urgency_from_ranks g tails order is ranked =
    let long : length tails ≡ process_count g = ap length is ∙ length-map-range_with_len (tail g) 0 (process_count g) in
    let all = subst (λ n. IsPermutation (numbers_below n) order) long ranked.all in
    let tail_at : (p : ℕ) → Contains order p → get_or tails p 0 ≡ tail g p = λ p listed. ap (λ xs. get_or xs p 0) is ∙
    get_or-map-below (tail g) (process_count g) p 0 (from_order (process_count g) order all p listed) in
    record {
      all = all;
      falling = λ i j d i_before_j j_inside.
          let first = get_or order i d in
          let second = get_or order j d in
          subst₂ (λ x y. (ltb y x || ((x == y) && ltb first second)) ≡ true)
          (tail_at first (Contains-get_or order i d (omega arith)))
          (tail_at second (Contains-get_or order j d j_inside))
          (ranked.falling i j d i_before_j j_inside);
    }
