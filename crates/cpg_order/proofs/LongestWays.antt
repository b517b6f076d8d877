-- The lengths of the longest ways, found from the last process of a topological order to the first.
use Rattle.std.proofs.Common.{ℕ, ◌+◌, ◌*◌, ◌<◌, ◌≤◌, ◌≡◌, inl, inr, Bool, true, false, if◌then◌else◌, List, length}
use Rattle.std.proofs.Common.{get_or, set, map, arith, sym, ap, ◌∙◌, subst, length-set, get_or-set_other}
use Rattle.std.proofs.Common.{get_or-set_same}
use Rattle.std.proofs.lemmas.Bool.{cases_eq, cases_lt}
use Rattle.std.proofs.lemmas.List.{ext_get_or, get_or_past}
use Rattle.std.proofs.lemmas.List.FromFn.{length-map-range_with_len}
use Rattle.cpg_base.specs.Numbers.{numbers_below, greatest}
use Rattle.cpg_base.specs.Graph.{Graph, process_count, target, outputs, is_message}
use Rattle.cpg_base.specs.Duration.{duration}
use Rattle.cpg_base.specs.Bus.{round}
use Rattle.cpg_base.specs.Limits.{IsWithinLimits}
use Rattle.cpg_base.proofs.Lists.{same_map, Contains-map_parts, greatest-le, get_or-map-below}
use Rattle.cpg_base.proofs.Inputs.{outputs_parts}
use Rattle.cpg_base.proofs.Bounds.{round-le, duration-le}
use Rattle.cpg_order.specs.Urgency.{tail, IsTopological}
use Rattle.cpg_base.specs.Order.{place}
use Rattle.cpg_base.proofs.Places.{length_order, place-lt, get_or-place, Contains-order}
use Rattle.cpg_order.proofs.Acyclic.{output_goes_up, tail_is}

-- the longest way over an edge from a process, given how long the ways from other processes are
abbrev pub longest_from : Graph → List ℕ → ℕ → ℕ
longest_from g tails p =
    greatest (map (λ e. (if is_message g e then round g else 0) + get_or tails (target g e) 0) (outputs g p))

-- n, or 0 if the test b fails, is at most n; n is the round, which only a message may have to wait for
round_if-le : (b : Bool) (n : ℕ) → (if b then n else 0) ≤ n
round_if-le true n = omega arith
round_if-le false n = omega arith

-- the tails of the last `done` processes of the order are found, and no tail is longer than these processes allow
pub record AreFound (g : Graph) (order tails : List ℕ) (done : ℕ) : Type 0 where
  -- there is a tail for each process
  pub long : length tails ≡ process_count g
  -- the tails of the last `done` processes in the order are found
  pub found : (p : ℕ) → p < process_count g → process_count g ≤ done + place order p → get_or tails p 0 ≡ tail g p
  -- each process adds at most its execution and a round, which take less than 7 * 10^11 time units
  pub low : (p : ℕ) → get_or tails p 0 ≤ done * 700000000000

-- given a topological order of a graph within the limits
module _ (g : Graph) (within : IsWithinLimits g) (order : List ℕ) (topological : IsTopological g order) where
  -- the order has each process once
  order_long : length order ≡ process_count g
  order_long = length_order (process_count g) order topological.all

  -- At the start, with zeros alone, no tail is found.
  -- No process has a place behind the end of the order, so there is nothing to show of tails.
  pub none_found : (tails : List ℕ) → length tails ≡ process_count g →
      ((p : ℕ) → p < process_count g → get_or tails p 0 ≡ 0) →
      AreFound g order tails 0
  none_found tails long zeros = record {
    long = long;
    found = λ p inside past. absurd
        (let place_inside = place-lt order p (Contains-order (process_count g) order topological.all p inside) in
        omega (arith, order_long));
    low = λ p. elim (cases_lt p (length tails)) [
      | inl compared ↦ omega (arith, zeros p (omega arith))
      | inr compared ↦ omega (arith, get_or_past tails p 0 compared)
    ];
  }

  -- given the tails of the last `done` processes, and the process before them
  module _ (tails : List ℕ) (done p : ℕ) (are : AreFound g order tails done) (inside : p < process_count g)
      (at : place order p + done + 1 ≡ process_count g) where
    -- a bound on the longest way over an edge, when some tails are found
    pub longest_from-le : longest_from g tails p ≤ 16000000000 + done * 700000000000
    longest_from-le = greatest-le _ _ (λ x listed.
        let parts = Contains-map_parts (λ e. (if is_message g e then round g else 0) + get_or tails (target g e) 0)
        (outputs g p) x listed in
        omega (
          arith,
          parts.2,
          round_if-le (is_message g parts.0) (round g),
          round-le g within,
          are.low
              (target g parts.0),
        ))

    -- the duration of the next process and the longest way over its outputs are its tail
    pub next_tail : duration g p 0 + longest_from g tails p ≡ tail g p
    next_tail = ap (λ xs. duration g p 0 + greatest xs) (same_map _ _ (outputs g p)
        (λ e is_output. ap (λ x. (if is_message g e then round g else 0) + x)
        (are.found (target g e) (within.edges e _ (outputs_parts g p e is_output).0).to
        (omega (arith, output_goes_up g order topological p e is_output)))))
        ∙ sym (tail_is g order topological p inside)

    -- a process q of the graph with the place of p in the order is p
    at_place_of : (q : ℕ) → q < process_count g → place order q ≡ place order p → q ≡ p
    at_place_of q inside_q equal =
        sym (get_or-place order q 0 (Contains-order (process_count g) order topological.all q inside_q))
        ∙ ap (λ k. get_or order k 0) equal
        ∙ get_or-place order p 0 (Contains-order (process_count g) order topological.all p inside)

    -- With the tail of the next process p, going backwards through the order, the tails of done + 1 processes are found.
    -- A process is p, whose tail was set, or one after it in the order, whose tail was found before.
    pub found_more : AreFound g order (set tails p (duration g p 0 + longest_from g tails p)) (done + 1)
    found_more = record {
      long = length-set tails p _ ∙ are.long;
      found = λ q inside_q is_done. elim (cases_eq q p) [
        | inl is_p ↦ subst (λ x. get_or (set tails p (duration g p 0 + longest_from g tails p)) x 0 ≡ tail g x)
            (sym is_p)
            (get_or-set_same tails p (duration g p 0 + longest_from g tails p) 0 (omega (arith, are.long)) ∙ next_tail)
        | inr is_other ↦ get_or-set_other tails p q (duration g p 0 + longest_from g tails p) 0 is_other
            ∙ are.found q inside_q (elim (cases_eq (place order q) (place order p)) [
              | inl equal ↦ absurd (is_other (at_place_of q inside_q equal))
              | inr unequal ↦ omega arith
            ])
      ];
      low = λ q. elim (cases_eq q p) [
        | inl is_p ↦
            let same : get_or (set tails p (duration g p 0 + longest_from g tails p)) q 0
            ≡ duration g p 0 + longest_from g tails p =
            ap (λ x. get_or (set tails p (duration g p 0 + longest_from g tails p)) x 0) is_p
            ∙ get_or-set_same tails p (duration g p 0 + longest_from g tails p) 0 (omega (arith, are.long)) in
            omega (arith, longest_from-le, duration-le g p 0 within inside (omega arith))
        | inr is_other ↦ omega (
          arith,
          get_or-set_other tails p q
              (duration g p 0 + longest_from g tails p) 0 is_other,
          are.low q,
        )
      ];
    }

  -- with as many tails as processes, the list has the tail of each process
  pub all_found : (tails : List ℕ) → AreFound g order tails (process_count g) →
      tails ≡ map (tail g) (numbers_below (process_count g))
  all_found tails are = ext_get_or 0 tails (map (tail g) (numbers_below (process_count g)))
      (are.long ∙ sym (length-map-range_with_len (tail g) 0 (process_count g)))
      (λ p below. let inside : p < process_count g = omega (arith, are.long) in
      are.found p inside (omega arith) ∙ sym (get_or-map-below (tail g) (process_count g) p 0 inside))

-- the longest way over the outputs, as code finds it
pub way_is : (g : Graph) (turn p : ℕ) (outs found tails : List ℕ) → turn ≡ round g → found ≡ tails → outs ≡ outputs g p
    → greatest (map (λ e. (if is_message g e then turn else 0) + get_or found (target g e) 0) outs)
    ≡ longest_from g tails p
way_is g turn p outs found tails turn_is found_is outs_are =
    ap (λ n. greatest (map (λ e. (if is_message g e then n else 0) + get_or found (target g e) 0) outs)) turn_is
    ∙ ap (λ ts. greatest (map (λ e. (if is_message g e then round g else 0) + get_or ts (target g e) 0) outs)) found_is
    ∙ ap (λ es. greatest (map (λ e. (if is_message g e then round g else 0) + get_or tails (target g e) 0) es)) outs_are
