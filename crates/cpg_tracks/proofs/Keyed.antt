-- Steps of the loops that find the schedules and the keys, and what they come to.
use Rattle.std.proofs.Common.{◌≡◌, ℕ, ◌+◌, ◌<◌, ◌≤◌, Bool, List, [], ◌∷◌, ◌++◌, length, get_or, set, take, replicate}
use Rattle.std.proofs.Common.{map, flat_map, All, Contains, IsPermutation, AllPairs, true, Option, Some, None}
use Rattle.std.proofs.Common.{option_to_list, unwrap_or, sym, ap, ◌∙◌, subst, subst₂, arith, inl, inr}
use Rattle.std.proofs.lemmas.List.{take_more, map-append, length-map, length-append, get_or-replicate, get_or_past}
use Rattle.std.proofs.lemmas.List.{length-replicate, get_or-set_same, get_or-set_other, get_or_append_left}
use Rattle.std.proofs.lemmas.List.{get_or-append-add}
use Rattle.std.proofs.lemmas.List.Elements.{Contains-append_cases, All-contains}
use Rattle.std.proofs.lemmas.Bool.{cases_eq, cases_lt}
use Rattle.std.proofs.lemmas.List.FromFn.{length-map-range_with_len}
use Rattle.cpg_base.specs.Numbers.{numbers_below}
use Rattle.cpg_base.specs.Graph.{Graph, process_count, source, inputs}
use Rattle.cpg_base.proofs.Lists.{greatest-le, in_option, Contains-flat_map_parts, Contains-map_parts}
use Rattle.cpg_tracks.specs.Tracks.{IsGreedy, AreSchedules, key_by, is_ahead, HasTrackOrder}
use Rattle.cpg_tracks.specs.Track.{Track, AreAllTracks, AreBy}
use Rattle.cpg_tracks.specs.Walks.{AreKeys}
use Rattle.cpg_tracks.specs.Keys.{AreLow}

-- ---- no key is high

-- Each start in the schedules is within their bound.
-- It is the start in one of the schedules, each of which keeps the bound.
start_low : (b : ℕ) (schedules : List (List (Option ℕ))) → All (AreBy b) schedules → (p x : ℕ) →
    Contains (flat_map (λ starts. option_to_list (get_or starts p None)) schedules) x → x ≤ b
start_low b schedules early p x listed =
    let found = Contains-flat_map_parts (λ starts. option_to_list (get_or starts p None)) schedules x listed in
    let is : get_or found.0 p None ≡ Some x = in_option (get_or found.0 p None) x found.2 in
    go found.0 found.1 is
  where
    -- a start in one of the schedules is at most the bound of all
    go : (starts : List (Option ℕ)) → Contains schedules starts → get_or starts p None ≡ Some x → x ≤ b
    go starts is_schedule is_start =
        omega (arith, All-contains (AreBy b) schedules starts early is_schedule p, ap (λ o. unwrap_or o 0) is_start)

-- A key is at most one more than a bound on the starts and on the keys before it.
-- Each number of which it is the greatest is a start, or one more than a key.
pub key_low : (g : Graph) (schedules : List (List (Option ℕ))) (keys : List ℕ) (b c p : ℕ) → All (AreBy b) schedules →
    b ≤ c → AreLow c keys →
    key_by g schedules keys p ≤ c + 1
key_low g schedules keys b c p early more low =
    greatest-le (flat_map (λ starts. option_to_list (get_or starts p None)) schedules
    ++ map (λ e. get_or keys (source g e) 0 + 1) (inputs g p)) (c + 1)
    (λ x listed.
    elim (Contains-append_cases (flat_map (λ starts. option_to_list (get_or starts p None)) schedules)
    (map (λ e. get_or keys (source g e) 0 + 1) (inputs g p)) x listed) [
      | inl part ↦ omega (arith, start_low b schedules early p x part)
      | inr part ↦ let found = Contains-map_parts (λ e. get_or keys (source g e) 0 + 1) (inputs g p) x part in
          omega (arith, low (source g found.0), found.2)
    ])

-- with one more key all keys are within the next bound
pub low_more : (keys : List ℕ) (c p key : ℕ) → p < length keys → AreLow c keys → key ≤ c + 1 →
    AreLow (c + 1) (set keys p key)
low_more keys c p key inside low key_bound q = elim (cases_eq q p) [
  | inl is_p ↦ omega (arith, ap (λ x. get_or (set keys p key) x 0) is_p, get_or-set_same keys p key 0 inside)
  | inr is_other ↦ omega (arith, get_or-set_other keys p q key 0 is_other, low q)
]

-- at the start all keys are 0
pub low_first : (n b : ℕ) → AreLow b (replicate n 0)
low_first n b p = elim (cases_lt p n) [
  | inl inside ↦ omega (arith, get_or-replicate {A = ℕ} n p 0 0 inside)
  | inr past ↦ omega (arith, get_or_past {X = ℕ} (replicate n 0) p 0 (omega (arith, length-replicate {A = ℕ} n 0)))
]

-- ---- the schedule of one more track

-- the schedule of one more track is found
pub schedules_more : (g : Graph) (tracks : List Track) (i : ℕ) (d : Track) (schedules more : List (List (Option ℕ)))
    (starts : List (Option ℕ)) →
    i < length tracks →
    AreSchedules g (map (λ (t : Track). t.outcome) (take i tracks)) schedules →
    IsGreedy g (get_or tracks i d).outcome starts → more ≡ schedules ++ starts ∷ [] →
    AreSchedules g (map (λ (t : Track). t.outcome) (take (i + 1) tracks)) more
schedules_more g tracks i d schedules more starts inside are greedy is =
    subst (λ ts. AreSchedules g ts more) (sym (ap (map (λ (t : Track). t.outcome)) (take_more tracks i d inside)
    ∙ map-append (λ (t : Track). t.outcome) (take i tracks) (get_or tracks i d ∷ [])))
    (subst (AreSchedules g (map (λ (t : Track). t.outcome) (take i tracks) ++ (get_or tracks i d).outcome ∷ []))
    (sym is)
    (one_more (map (λ (t : Track). t.outcome) (take i tracks)) schedules (get_or tracks i d).outcome starts are greedy))
  where
    -- schedules of some outcomes and a schedule of one more outcome are schedules of all of them
    one_more : (os : List (List Bool)) (ss : List (List (Option ℕ))) (o : List Bool) (s : List (Option ℕ)) →
        AreSchedules g os ss → IsGreedy g o s →
        AreSchedules g (os ++ o ∷ []) (ss ++ s ∷ [])
    one_more os ss o s are is_greedy = record {
      count = length-append ss (s ∷ []) ∙ ap (λ n. n + 1) are.count ∙ sym (length-append os (o ∷ []));
      each = λ j below. elim (cases_lt j (length os)) [
        | inl inside ↦ subst₂ (IsGreedy g) (sym (get_or_append_left os (o ∷ []) [] j inside))
            (sym (get_or_append_left ss (s ∷ []) [] j (omega (arith, are.count)))) (are.each j inside)
        | inr past ↦
            let at : j ≡ length os + 0 = omega (arith, length-append os (o ∷ []), past) in
            subst₂ (IsGreedy g) (sym (ap (λ x. get_or (os ++ o ∷ []) x []) at ∙ get_or-append-add os (o ∷ []) 0 []))
            (sym (ap (λ x. get_or (ss ++ s ∷ []) x []) (at ∙ ap (λ n. n + 0) (sym are.count))
            ∙ get_or-append-add ss (s ∷ []) 0 [])) is_greedy
      ];
    }

-- ---- the order

-- there is a key for each process
pub keys_long : (g : Graph) (schedules : List (List (Option ℕ))) (keys : List ℕ) → AreKeys g schedules keys →
    length keys ≡ process_count g
keys_long g schedules keys by = ap length by ∙ length-map-range_with_len (key_by g schedules keys) 0 (process_count g)

-- The processes sorted by their keys are the track order.
-- The tracks are all tracks, the keys follow the rule, and the order has each process once.
pub has_order : (g : Graph) (tracks : List Track) (schedules : List (List (Option ℕ))) (keys order : List ℕ) →
    AreAllTracks g tracks →
    AreSchedules g (map (λ (t : Track). t.outcome) tracks) schedules → AreKeys g schedules keys →
    IsPermutation (numbers_below (length keys)) order → AllPairs (λ p q. is_ahead keys p q ≡ true) order →
    HasTrackOrder g order
has_order g tracks schedules keys order all greedy by perm rising = record {
  tracks = map (λ (t : Track). t.outcome) tracks;
  all = all.outcomes;
  few = omega (arith, all.few, length-map tracks (λ (t : Track). t.outcome));
  by = record {
    schedules = schedules;
    greedy = greedy;
    keys = keys;
    by = by;
    all = subst (λ n. IsPermutation (numbers_below n) order) (keys_long g schedules keys by) perm;
    rising = rising;
  };
}
