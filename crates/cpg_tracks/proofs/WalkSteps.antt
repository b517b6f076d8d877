-- Steps of the loops that list the tracks.
use Rattle.std.proofs.Common.{◌≡◌, ℕ, ◌+◌, ◌<◌, List, [], ◌∷◌, ◌++◌, length, get_or, take, drop, map, flat_map}
use Rattle.std.proofs.Common.{option_to_list, Option, Some, None, refl, sym, ap, ◌∙◌, arith}
use Rattle.std.proofs.lemmas.List.{take_more, append-nil, map-append, take-append-drop}
use Rattle.std.proofs.lemmas.Grind.{flat_map-append}
use Rattle.cpg_base.specs.Graph.{Graph, condition_of}
use Rattle.cpg_base.specs.Scenario.{Scenario}
use Rattle.cpg_order.specs.Counting.{conditions_along, all_false}
use Rattle.cpg_order.specs.Urgency.{IsUrgencyOrder, IsTopological}
use Rattle.cpg_tracks.specs.Tracks.{HasManyTracks, most_scheduled_tracks}
use Rattle.cpg_tracks.specs.Walks.{both_ways_at, tracks_over}
use Rattle.cpg_tracks.specs.Track.{Track, outcomes_of}
use Rattle.cpg_tracks.proofs.TracksFound.{walk_finds_tracks, never_fewer}
use Rattle.cpg_tracks.proofs.TrackSteps.{over_append}

-- f of the first i + 1 elements of `xs` gives what it gives of the first i, and then what it gives of the i-th
flat_map_next : {X Y : Type 0} (f : X → List Y) (xs : List X) (i : ℕ) (d : X) → i < length xs →
    flat_map f (take (i + 1) xs) ≡ flat_map f (take i xs) ++ f (get_or xs i d)
flat_map_next f xs i d inside =
    ap (flat_map f) (take_more xs i d inside) ∙ flat_map-append f (take i xs) (get_or xs i d ∷ [])
    ∙ ap (λ ys. flat_map f (take i xs) ++ ys) (append-nil (f (get_or xs i d)))

-- the first i + 1 elements of `xs`, mapped, are the first i, mapped, and then f of the i-th
map_next : {X Y : Type 0} (f : X → Y) (xs : List X) (i : ℕ) (d : X) → i < length xs →
    map f (take (i + 1) xs) ≡ map f (take i xs) ++ f (get_or xs i d) ∷ []
map_next f xs i d inside = ap (map f) (take_more xs i d inside) ∙ map-append f (take i xs) (get_or xs i d ∷ [])

-- ---- the ways of one more outcome

-- if the outcomes found are those that the first i scenarios of `xs` make at condition c, and those of the i-th come at the
-- end, they are those that the first i + 1 make
pub ways_more : (g : Graph) (c : ℕ) (xs found more : List Scenario) (i : ℕ) (d : Scenario) → i < length xs →
    outcomes_of found ≡ flat_map (both_ways_at g c) (outcomes_of (take i xs)) →
    outcomes_of more ≡ outcomes_of found ++ both_ways_at g c (get_or xs i d).values →
    outcomes_of more ≡ flat_map (both_ways_at g c) (outcomes_of (take (i + 1) xs))
ways_more g c xs found more i d inside found_are more_are =
    more_are ∙ ap (λ ys. ys ++ both_ways_at g c (get_or xs i d).values) found_are
    ∙ sym (ap (flat_map (both_ways_at g c)) (map_next (λ (s : Scenario). s.values) xs i d inside)
    ∙ flat_map-append (both_ways_at g c) (outcomes_of (take i xs)) ((get_or xs i d).values ∷ [])
    ∙ ap (λ ys. flat_map (both_ways_at g c) (outcomes_of (take i xs)) ++ ys)
    (append-nil (both_ways_at g c (get_or xs i d).values)))

-- ---- one more process of the order

-- the outcomes up to the next process are made of those before it, over its condition if it has one
over_next : (g : Graph) (order : List ℕ) (i : ℕ) (o : Option ℕ) → i < length order →
    condition_of g (get_or order i 0) ≡ o →
    tracks_over g (conditions_along g (take (i + 1) order)) (all_false g ∷ [])
    ≡ tracks_over g (option_to_list o) (tracks_over g (conditions_along g (take i order)) (all_false g ∷ []))
over_next g order i o inside condition_is = ap (λ cs. tracks_over g cs (all_false g ∷ []))
    (flat_map_next (λ p. option_to_list (condition_of g p)) order i 0 inside
    ∙ ap (λ r. conditions_along g (take i order) ++ option_to_list r) condition_is)
    ∙ over_append g (conditions_along g (take i order)) (option_to_list o) (all_false g ∷ [])

-- if the i-th process of the order has condition c, and the outcomes found so far go both ways at c, they are those of the
-- first i + 1 processes
pub walk_takes : (g : Graph) (order : List ℕ) (i c : ℕ) (found more : List Scenario) → i < length order →
    condition_of g (get_or order i 0) ≡ Some c →
    outcomes_of found ≡ tracks_over g (conditions_along g (take i order)) (all_false g ∷ []) →
    outcomes_of more ≡ flat_map (both_ways_at g c) (outcomes_of found) →
    outcomes_of more ≡ tracks_over g (conditions_along g (take (i + 1) order)) (all_false g ∷ [])
walk_takes g order i c found more inside condition_is found_are more_are =
    more_are ∙ ap (flat_map (both_ways_at g c)) found_are ∙ sym (over_next g order i (Some c) inside condition_is)

-- a process without a condition leaves the outcomes as they are
pub walk_skips : (g : Graph) (order : List ℕ) (i : ℕ) (scenarios : List Scenario) → i < length order →
    condition_of g (get_or order i 0) ≡ None →
    outcomes_of scenarios ≡ tracks_over g (conditions_along g (take i order)) (all_false g ∷ []) →
    outcomes_of scenarios ≡ tracks_over g (conditions_along g (take (i + 1) order)) (all_false g ∷ [])
walk_skips g order i scenarios inside condition_is found_are =
    found_are ∙ sym (over_next g order i None inside condition_is)

-- A walk that has found too many outcomes shows that there are too many tracks.
-- The walk over the rest of the conditions makes no fewer of them, and at the end they are the tracks.
pub stopped_at : (g : Graph) (order : List ℕ) → IsUrgencyOrder g order → IsTopological g order → (i : ℕ) →
    most_scheduled_tracks < length (tracks_over g (conditions_along g (take i order)) (all_false g ∷ [])) →
    HasManyTracks g
stopped_at g order urgency top i too_many =
    let front : List ℕ = conditions_along g (take i order) in
    let back : List ℕ = conditions_along g (drop i order) in
    let split : conditions_along g order ≡ front ++ back = ap (conditions_along g) (sym (take-append-drop i order)) ∙
    flat_map-append (λ p. option_to_list (condition_of g p)) (take i order) (drop i order) in
    let all : tracks_over g (conditions_along g order) (all_false g ∷ [])
    ≡ tracks_over g back (tracks_over g front (all_false g ∷ [])) =
    ap (λ cs. tracks_over g cs (all_false g ∷ [])) split ∙ over_append g front back (all_false g ∷ []) in
    record {
      tracks = tracks_over g (conditions_along g order) (all_false g ∷ []);
      all = walk_finds_tracks g order urgency top;
      many = omega (arith, never_fewer g back (tracks_over g front (all_false g ∷ [])), ap length all);
    }

-- ---- the track of one more outcome

-- if the tracks found have the outcomes of the first i scenarios of `xs`, and t has that of the next, then with t they have
-- those of the first i + 1
pub outcomes_more : (xs : List Scenario) (found more : List Track) (t : Track) (i : ℕ) (d : Scenario) →
    i < length xs →
    map (λ (t : Track). t.outcome) found ≡ outcomes_of (take i xs) →
    t.outcome ≡ (get_or xs i d).values → more ≡ found ++ t ∷ [] →
    map (λ (t : Track). t.outcome) more ≡ outcomes_of (take (i + 1) xs)
outcomes_more xs found more t i d inside found_are outcome_is more_are =
    ap (map (λ (t : Track). t.outcome)) more_are ∙ map-append (λ (t : Track). t.outcome) found (t ∷ [])
    ∙ ap (λ ys. ys ++ t.outcome ∷ []) found_are ∙ ap (λ o. outcomes_of (take i xs) ++ o ∷ []) outcome_is
    ∙ sym (map_next (λ (s : Scenario). s.values) xs i d inside)

-- an optional number that has no value is none
pub none_if : (o : Option ℕ) → ((x : ℕ) → o ≡ Some x → ⊥) → o ≡ None
none_if None no_value = refl
none_if (Some x) no_value = absurd (no_value x refl)
