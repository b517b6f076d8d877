-- Lists in order of time, and the place in them where what is after the last turn begins.
use Rattle.std.proofs.Common.{◌≡◌, ℕ, ◌<◌, ◌≤◌, true, false, List, [], ◌∷◌, filter, length, get_or, slice_get, Contains}
use Rattle.std.proofs.Common.{Option, Some, None, refl, sym, ap, ◌∙◌, subst, arith, inl, inr, true≢false}
use Rattle.std.proofs.Common.{ltb-true, lt-ltb, le-ltb}
use Rattle.std.proofs.lemmas.Bool.{cases_lt, ltb-false}
use Rattle.std.proofs.lemmas.Option.{slice_get-get_or, slice_get_past}
use Rattle.std.proofs.lemmas.List.{get_or_default}
use Rattle.cpg_base.proofs.Lists.{Contains-first, Contains-filter, Contains-filter_parts}
use Rattle.cpg_node.specs.Dispatcher.{is_after, least_of}
use Rattle.cpg_node.specs.Plan.{IsPlaceAfter}
use Rattle.cpg_node.proofs.Least.{least_is}

-- a time that isn't after the last turn is no later than it
pub reached_time : (last time : ℕ) → is_after (Some last) time ≡ false → time ≤ last
reached_time last time not_after = ltb-false last time not_after

-- after a turn at `instant` the place is `next`, if all elements from the old place up to `next` are no later than the turn,
-- and the one at `next` is: what stands before the old place isn't after the last turn, and so not after this one; what
-- stands behind `next` is no earlier than it
pub moves_on : {X : Type 0} (time : X → ℕ) (last : Option ℕ) (xs : List X) (place next instant : ℕ) →
    IsPlaceAfter time last xs place →
    is_after last instant ≡ true →
    place ≤ next → next ≤ length xs → ((i : ℕ) (d : X) → place ≤ i → i < next → time (get_or xs i d) ≤ instant) →
    ((d : X) → next < length xs → instant < time (get_or xs next d)) →
    IsPlaceAfter time (Some instant) xs next
moves_on {X = X} time last xs place next instant at_place after l w before here = record {
  within = w;
  rises = at_place.rises;
  reached = λ i d h. le-ltb instant (time (get_or xs i d)) (elim (cases_lt i place) [
    | inl k ↦ early last after (time (get_or xs i d)) (at_place.reached i d k)
    | inr k ↦ before i d k h
  ]);
  left = λ i d h k. lt-ltb instant (time (get_or xs i d)) (omega (arith, here d (omega arith), at_place.rises next i d h k));
}
  where
    -- what is at the last turn or earlier isn't after this one
    early : (last : Option ℕ) → is_after last instant ≡ true → (t : ℕ) → is_after last t ≡ false → t ≤ instant
    early None after t not_after = absurd (true≢false not_after)
    early (Some s) after t not_after = omega (arith, ltb-true s instant after, reached_time s t not_after)

-- `moves_on` for a loop whose clauses are of an equal list (`seen`)
pub moves_on_seen : {X : Type 0} (time : X → ℕ) (last : Option ℕ) (xs seen : List X) (place next instant : ℕ) →
    IsPlaceAfter time last xs place → is_after last instant ≡ true → seen ≡ xs →
    (place ≤ next) × (next ≤ length seen) → ((i : ℕ) (d : X) → place ≤ i → i < next → time (get_or seen i d) ≤ instant) →
    ((d : X) → next < length seen → instant < time (get_or seen next d)) →
    IsPlaceAfter time (Some instant) xs next
moves_on_seen {X = X} time last xs seen place next instant at_place after same inside before here =
    moves_on time last xs place next instant at_place after inside.0 (omega (arith, inside.1, ap length same))
    (subst (λ (ys : List X). (i : ℕ) (d : X) → place ≤ i → i < next → time (get_or ys i d) ≤ instant) same before)
    (subst (λ (ys : List X). (d : X) → next < length ys → instant < time (get_or ys next d)) same here)

-- The time at the place, if there is one, is the least of those after the last turn: it is one of them, and the others
-- stand after it. If the place is past the list's end, there are none.
pub first_left : (last : ℕ) (xs : List ℕ) (place : ℕ) → IsPlaceAfter (λ t. t) (Some last) xs place →
    slice_get xs place ≡ least_of (filter (is_after (Some last)) xs)
first_left last xs place at_place = elim (cases_lt place (length xs)) [
  | inl inside ↦ let earliest = get_or xs place 0 in
      slice_get-get_or xs place 0 inside ∙ sym (least_is (filter (is_after (Some last)) xs) earliest
      (Contains-filter (is_after (Some last)) xs earliest (at_place.left place 0 (omega arith) inside)
      (place, inside, get_or_default xs place earliest 0 inside))
      (λ y c. least y (Contains-filter_parts (is_after (Some last)) xs y c)))
  | inr at_end ↦ slice_get_past xs place at_end ∙ sym (ap least_of
      (none (filter (is_after (Some last)) xs) (λ y c. past at_end y
      (Contains-filter_parts (is_after (Some last)) xs y c))))
]
  where
    -- a member that is after the last turn stands at the place or after it
    stands : (y i : ℕ) → i < length xs → get_or xs i y ≡ y → is_after (Some last) y ≡ true → place ≤ i
    stands y i inside same after = elim (cases_lt i place) [
      | inl k ↦ absurd (true≢false (sym after ∙ ap (is_after (Some last)) (sym same) ∙ at_place.reached i y k))
      | inr k ↦ k
    ]

    -- no member after the last turn is earlier than the one at the place
    least : (y : ℕ) → Contains xs y × (is_after (Some last) y ≡ true) → get_or xs place 0 ≤ y
    least y ((i, l, e), a) = omega (
      arith,
      e,
      at_place.rises place i y (stands y i l e a) l,
      get_or_default xs place y 0 (omega (arith, stands y i l e a)),
    )

    -- if the place is past the list's end, nothing is after the last turn
    past : length xs ≤ place → (y : ℕ) → Contains xs y × (is_after (Some last) y ≡ true) → ⊥
    past at_end y ((i, l, e), a) = omega (arith, stands y i l e a)

    -- a list without a member is empty
    none : (ys : List ℕ) → ((y : ℕ) → Contains ys y → ⊥) → ys ≡ []
    none [] no_member = refl
    none (y ∷ ys) no_member = absurd (no_member y (Contains-first y ys))
