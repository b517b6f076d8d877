-- Where processes stand in an order: each at one place, and one at each place.
use Rattle.std.proofs.Common.{ℕ, ◌+◌, ◌<◌, ◌≡◌, List, length, get_or, set, IsPermutation, arith, sym, ap, ◌∙◌, subst}
use Rattle.std.proofs.Common.{get_or-set_other, get_or-set_same, length-set, inl, inr}
use Rattle.std.proofs.lemmas.List.Elements.{Contains-get_or}
use Rattle.std.proofs.lemmas.Bool.{cases_eq}
use Rattle.cpg_base.specs.Numbers.{numbers_below}
use Rattle.cpg_base.specs.Graph.{Graph, process_count}
use Rattle.cpg_base.specs.Limits.{IsWithinLimits}
use Rattle.cpg_base.proofs.Pairs.{one_place}
use Rattle.cpg_base.specs.Order.{place, IsOrder, ArePlaces}
use Rattle.cpg_base.proofs.Places.{get_or-place, place-lt, length_order, Contains-order, from_order}

-- the places of the processes before the place k are written down
pub record AreWritten (order places : List ℕ) (k : ℕ) : Type 0 where
  -- there is a place for each process
  pub long : length places ≡ length order
  -- the places of the first k processes are right
  pub there : (j : ℕ) → j < k → get_or places (get_or order j 0) 0 ≡ j

-- given an order of processes
module _ (order : List ℕ) (lawful : IsOrder order) where
  -- each process has a place in the order
  pub place_within : (p : ℕ) → p < length order → place order p < length order
  place_within p inside = place-lt order p (Contains-order (length order) order lawful.all p inside)

  -- at the place of a process stands the process
  pub at_place : (p : ℕ) → p < length order → get_or order (place order p) 0 ≡ p
  at_place p inside = get_or-place order p 0 (Contains-order (length order) order lawful.all p inside)

  -- at each place of the order stands a process
  pub process_within : (k : ℕ) → k < length order → get_or order k 0 < length order
  process_within k inside =
      from_order (length order) order lawful.all (get_or order k 0) (Contains-get_or order k 0 inside)

  -- the place of the process at a place is that place
  pub place_at : (k : ℕ) → k < length order → place order (get_or order k 0) ≡ k
  place_at k inside =
      let process_inside = process_within k inside in
      one_place (length order) order lawful.all (place order (get_or order k 0)) k 0
      (place_within (get_or order k 0) process_inside) inside (at_place (get_or order k 0) process_inside)

  -- ---- writing down the places of one process after another

  -- The place of the next process is written down.
  -- A process of the order is the next one, or one before it, whose place stays.
  pub written_more : (places : List ℕ) (k : ℕ) → k < length order → AreWritten order places k →
      AreWritten order (set places (get_or order k 0) k) (k + 1)
  written_more places k inside written = record {
    long = length-set places (get_or order k 0) k ∙ written.long;
    there = λ j below. elim (cases_eq j k) [
      | inl is ↦ subst (λ i. get_or (set places (get_or order k 0) k) (get_or order i 0) 0 ≡ i) (sym is)
          (get_or-set_same places (get_or order k 0) k 0 (omega (arith, process_within k inside, written.long)))
      | inr differ ↦ get_or-set_other places (get_or order k 0) (get_or order j 0) k 0
          (λ same. differ (sym (place_at j (omega arith)) ∙ ap (place order) same ∙ place_at k inside))
          ∙ written.there j (omega arith)
    ];
  }

  -- once all are written down, the places are those of the order
  pub all_written : (places : List ℕ) → AreWritten order places (length order) → ArePlaces order places
  all_written places written = record {
    lawful = lawful;
    long = written.long;
    there =
        λ p inside. sym (ap (λ q. get_or places q 0) (at_place p inside))
        ∙ written.there (place order p) (place_within p inside);
  }

-- all processes of a graph are an order
pub order_of_all : (g : Graph) → IsWithinLimits g → (order : List ℕ) →
    IsPermutation (numbers_below (process_count g)) order → IsOrder order
order_of_all g within order all =
    let long = length_order (process_count g) order all in
    record {
      few = omega (arith, within.few_processes);
      all = subst (λ n. IsPermutation (numbers_below n) order) (sym long) all;
    }
