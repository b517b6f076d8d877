-- Each quiet outcome is a track, so the tracks that are quiet give all views; and the views of any reach, of 16,384
-- tracks at most, are below 2 ^ 64.
use Rattle.std.proofs.Common.{ℕ, ◌^◌, ◌<◌, ◌≤◌, ◌≡◌, Bool, true, false, cond, not, ◌||◌, List, [], length, get_or}
use Rattle.std.proofs.Common.{filter, sum_by, arith, sym, ap, ◌∙◌, ⊎_elim, refl}
use Rattle.std.proofs.lemmas.Nat.{mul-le}
use Rattle.std.proofs.lemmas.List.FromFn.{length-range_with_len}
use Rattle.std.proofs.lemmas.List.Elements.{All-from_get_or}
use Rattle.std.proofs.lemmas.Bool.{cases_Bool, and_parts, or_left, or_right, or_cases}
use Rattle.std.proofs.lemmas.List.Sorted.{sum_by-IsPermutation}
use Rattle.std.proofs.lemmas.List.Sums.{sum_by-le, length-filter, count_by-le-length}
use Rattle.cpg_base.specs.Numbers.{numbers_below}
use Rattle.cpg_base.specs.Graph.{Graph, process_count, condition_count, process_of, value_variable}
use Rattle.cpg_base.specs.Activity.{active}
use Rattle.cpg_base.proofs.Lists.{from_all, all_from}
use Rattle.cpg_base.proofs.Sums.{sum_by-filter, same_sum_by}
use Rattle.cpg_order.specs.Deciding.{outcomes}
use Rattle.cpg_order.specs.Reach.{is_in, views}
use Rattle.cpg_order.specs.Counting.{is_quiet, is_value_free, is_count_free, free_counts, views_of_outcome}
use Rattle.cpg_order.proofs.Views.{views-sum}
use Rattle.cpg_order.proofs.Ways.{ways_small}
use Rattle.cpg_order.specs.Track.{is_track, AreTracks}

module _ (g : Graph) where
  -- a quiet outcome is a track, as only values of active processes are free
  pub track_of_quiet : (reached : List ℕ) (o : List Bool) → is_quiet g reached o ≡ true → is_track g o ≡ true
  track_of_quiet reached o quiet =
      all_from (λ (c : ℕ). not (get_or o c false) || active g o (process_of g c)) (numbers_below (condition_count g))
      (λ c within. ⊎_elim
      (λ (known : not (get_or o c false) ≡ true). or_left (not (get_or o c false)) (active g o (process_of g c)) known)
      (λ (known : is_value_free g reached o c ≡ true). or_right (not (get_or o c false)) (active g o (process_of g c))
      (and_parts (is_in reached (value_variable c)) (active g o (process_of g c)) known).1)
      (or_cases (not (get_or o c false)) (is_value_free g reached o c)
      (from_all (λ (c : ℕ). not (get_or o c false) || is_value_free g reached o c)
      (numbers_below (condition_count g)) c quiet within)))

  -- the views of an outcome if it is quiet
  abbrev if_quiet : List ℕ → List Bool → ℕ
  if_quiet reached o = cond (is_quiet g reached o) (views_of_outcome g reached o) 0

  -- An outcome that is no track has no views, as it isn't quiet.
  -- A quiet outcome is a track; one that isn't quiet has 0 on both sides.
  none_but_tracks : (reached : List ℕ) (o : List Bool) → if_quiet reached o ≡ cond (is_track g o) (if_quiet reached o) 0
  none_but_tracks reached o = ⊎_elim
      (λ (known : is_quiet g reached o ≡ true). ap
      (λ b. cond b (if_quiet reached o) 0) (sym (track_of_quiet reached o known)))
      (λ (known : is_quiet g reached o ≡ false).
      let is_none : if_quiet reached o ≡ 0 = ap (λ b. cond b (views_of_outcome g reached o) 0) known in
      is_none ∙ sym (stays (is_track g o) 0) ∙
      ap (λ n. cond (is_track g o) n 0) (sym is_none))
      (cases_Bool (is_quiet g reached o))
    where
      -- a choice between n and n is n
      stays : (b : Bool) (n : ℕ) → cond b n n ≡ n
      stays true n = refl
      stays false n = refl

  -- The views of a reach are the sum of the views of the tracks that are quiet.
  -- Outcomes that aren't quiet add nothing, nor do those that are no tracks, so tracks alone are left.
  pub views_of_tracks : (reached : List ℕ) (tracks : List (List Bool)) → process_count g ≤ 128 → AreTracks g tracks →
      views g reached ≡ sum_by (views_of_outcome g reached) (filter (is_quiet g reached) tracks)
  views_of_tracks reached tracks few are =
      views-sum g reached few
      ∙ sum_by-filter (views_of_outcome g reached) (is_quiet g reached) (outcomes (condition_count g))
      ∙ same_sum_by (if_quiet reached) (λ o. cond (is_track g o) (if_quiet reached o) 0) (outcomes (condition_count g))
      (λ o c. none_but_tracks reached o)
      ∙ sym (sum_by-filter (if_quiet reached) (is_track g) (outcomes (condition_count g)))
      ∙ sym
      (sum_by-IsPermutation (if_quiet reached) (filter (is_track g) (outcomes (condition_count g))) tracks are.all)
      ∙ sym (sum_by-filter (views_of_outcome g reached) (is_quiet g reached) tracks)

  -- ---- a bound

  -- the views of an outcome are fewer than 2^42
  views_of_outcome_small : process_count g ≤ 128 → g.faults ≤ 8 → (reached : List ℕ) (o : List Bool) →
      views_of_outcome g reached o < 2 ^ 42
  views_of_outcome_small few faults reached o = ways_small (free_counts g reached o)
      (let not_more = count_by-le-length (is_count_free g reached o) (numbers_below (process_count g)) in
      let all_counts = length-range_with_len 0 (process_count g) in omega arith)
      g.faults faults

  -- With at most 16,384 tracks a reach has at most 2^56 views: 2^14 tracks of at most 2^42 views each.
  pub views_small : process_count g ≤ 128 → g.faults ≤ 8 → (reached : List ℕ) (tracks : List (List Bool)) →
      AreTracks g tracks → length tracks ≤ 16384 →
      views g reached ≤ 2 ^ 56
  views_small few faults reached tracks are short =
      let sum_of_tracks = views_of_tracks reached tracks few are in
      let quiet_length = length-filter (is_quiet g reached) tracks in
      let quiet_few = count_by-le-length (is_quiet g reached) tracks in
      let sum_small = sum_by-le (views_of_outcome g reached) (2 ^ 42) (filter (is_quiet g reached) tracks)
      (All-from_get_or (λ o. views_of_outcome g reached o ≤ 2 ^ 42) (filter (is_quiet g reached) tracks) []
      (λ k within. let small = views_of_outcome_small few faults reached
      (get_or (filter (is_quiet g reached) tracks) k []) in
      omega arith)) in
      let product =
      mul-le (length (filter (is_quiet g reached) tracks)) (2 ^ 42) 16384 (2 ^ 42) (omega arith) (omega arith) in
      omega arith

  -- a number of 64 bits holds the views with 16,384 tracks at most
  pub views_fit : process_count g ≤ 128 → g.faults ≤ 8 → (reached : List ℕ) (tracks : List (List Bool)) →
      AreTracks g tracks → length tracks ≤ 16384 →
      views g reached < 2 ^ 64
  views_fit few faults reached tracks are short = let small = views_small few faults reached tracks are short in
      omega arith
