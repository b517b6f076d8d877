-- The map of first places: each list of numbers that was met has the first place at which it was met.
use Rattle.std.proofs.Common.{Ordering, Less, Equal, Greater, ◌≡◌, ◌≢◌, ◌∙◌, ℕ, ◌+◌, ◌<◌, ◌≤◌, true, Bool, false, List}
use Rattle.std.proofs.Common.{[], ◌∷◌, ◌++◌, map, All, length, length-append, get_or, Some, None, rules, refl}
use Rattle.std.proofs.Common.{sym, ap, subst, inl, inr, arith}
use Rattle.std.proofs.lemmas.Bool.{cases_Bool, cases_eq, cases_lt}
use Rattle.std.proofs.lemmas.Option.{none-some}
use Rattle.std.proofs.lemmas.List.{append_assoc, get_or_append_left}
use Rattle.std.proofs.lemmas.List.Elements.{All-head, All-tail, All-cons, All-weaker}
use Rattle.std.proofs.lemmas.Map.Entries.{lookup_head, lookup_tail}
use Rattle.std.proofs.lemmas.Map.Lookups.{exact_bytes}
use Rattle.std.proofs.Math.Seq.{get_or-append_seam}
use Rattle.std.specs.BTreeMap.{is_at, insert_entry}
use Rattle.std.specs.Cmp.{Equal-is}
use Rattle.std.specs.Cmp.Lexicographic.{slice_cmp, bytes_decides, texts_ties}
use Rattle.std.specs.Global.{Vec}
use Rattle.std.specs.Map.{lookup}
use Rattle.std.specs.Ordering.{nat_cmp, is_eq, match_ordering}
use Rattle.cpg_base.specs.Numbers.{numbers_below}
use Rattle.cpg_base.proofs.Lists.{map_below_push}
use Rattle.cpg_all_runs.specs.FirstAlike.{AreFirstPlaces}
use Rattle.cpg_all_runs.specs.Placed.{place_in, with_place, GetsPlace}

-- the step of a loop that adds the numbers f n behind others: with f n the first n become n + 1
pub map_below_after : (f : ℕ → ℕ) (before xs more : List ℕ) (v n : ℕ) → xs ≡ before ++ map f (numbers_below n) →
    v ≡ f n → more ≡ xs ++ v ∷ [] →
    more ≡ before ++ map f (numbers_below (n + 1))
map_below_after f before xs more v n is new pushed =
    pushed ∙ ap (λ ys. ys ++ v ∷ []) is ∙ append_assoc before (map f (numbers_below n)) (v ∷ [])
    ∙ ap (λ ys. before ++ ys)
    (map_below_push f (map f (numbers_below n)) (map f (numbers_below n) ++ v ∷ []) v n refl new refl)

-- two numbers are equal if they are so as options
same_some : (a b : ℕ) → Some a ≡ Some b → a ≡ b
same_some a b equal = cc

-- given: a fact P of entries of a map
module _ (P : Vec ℕ × ℕ → Type 0) where
  -- what holds of all entries of a map holds of one that is found: by induction on the entries
  placed_found : (f : Vec ℕ → Ordering) (es : List (Vec ℕ × ℕ)) (i : ℕ) → All P es → lookup (is_at f) es ≡ Some i →
      (k : Vec ℕ) × (f k ≡ Equal) × P (k, i)
  placed_found f [] i of_all is_found = absurd (none-some i is_found)
  placed_found f (x ∷ es) i of_all is_found = elim (cases_Bool (is_at f x.0)) [
    | inl matches ↦ (
      x.0,
      (Equal-is (f x.0)).0 matches,
      subst (λ n. P (x.0, n)) (same_some x.1 i (sym (lookup_head (is_at f) x es matches) ∙ is_found))
          (All-head P x es of_all),
    )
    | inr differs ↦ placed_found f es i (All-tail P x es of_all) (sym (lookup_tail (is_at f) x es differs) ∙ is_found)
  ]

  -- a step of the next lemma: whether the new entry goes before the first, replaces its value, or goes behind it, what
  -- holds of all holds of all then
  put_by_order : (k : Vec ℕ) (v : ℕ) (e : Vec ℕ × ℕ) (es rest : List (Vec ℕ × ℕ)) → P (k, v) → (o : Ordering) →
      (o ≡ Equal → P (e.0, v)) → All P (e ∷ es) → All P rest →
      All P (match_ordering o ((k, v) ∷ e ∷ es) ((e.0, v) ∷ es) (e ∷ rest))
  put_by_order k v e es rest of_new Less of_same of_all of_rest = All-cons P (k, v) (e ∷ es) of_new of_all
  put_by_order k v e es rest of_new Equal of_same of_all of_rest =
      All-cons P (e.0, v) es (of_same refl) (All-tail P e es of_all)
  put_by_order k v e es rest of_new Greater of_same of_all of_rest = All-cons P e rest (All-head P e es of_all) of_rest

  -- what holds of all entries, and of a new one, holds of all after it is put in: by induction on the entries
  placed_inserted : (cmp : Vec ℕ → Vec ℕ → Ordering) (k : Vec ℕ) (v : ℕ) → P (k, v) →
      ((j : Vec ℕ) → cmp k j ≡ Equal → P (j, v)) → (es : List (Vec ℕ × ℕ)) → All P es →
      All P (insert_entry cmp es k v)
  placed_inserted cmp k v of_new of_same [] of_all = All-cons P (k, v) [] of_new of_all
  placed_inserted cmp k v of_new of_same (e ∷ es) of_all =
      put_by_order k v e es (insert_entry cmp es k v) of_new (cmp k e.0) (of_same e.0) of_all
      (placed_inserted cmp k v of_new of_same es (All-tail P e es of_all))

-- the place of an entry is below n, and is the first at which f has the entry's numbers
abbrev pub IsPlaced : (ℕ → List ℕ) → ℕ → Vec ℕ × ℕ → Type 0
IsPlaced f n e = (e.1 < n) × (f e.1 ≡ e.0.items) × ((j : ℕ) → f j ≡ e.0.items → e.1 ≤ j)

-- each entry has the first place of its numbers, and the numbers of each of the first n places have an entry
pub record ArePlaced (f : ℕ → List ℕ) (n : ℕ) (entries : List (Vec ℕ × ℕ)) : Type 0 where
  pub each : All (IsPlaced f n) entries
  pub all : (i : ℕ) → i < n → place_in entries (f i) ≢ None

-- whether an entry has these numbers as its key
abbrev is_key : List ℕ → Vec ℕ → Bool
is_key numbers k = is_at (λ (j : Vec ℕ). slice_cmp nat_cmp numbers j.items) k

-- a list of numbers is equal to itself by the comparison
key_itself : (numbers : List ℕ) → is_eq (slice_cmp nat_cmp numbers numbers) ≡ true
key_itself numbers = sym (texts_ties numbers numbers) ∙ (bytes_decides numbers numbers).1 refl

-- given: a list of numbers that is looked up in a map
module _ (numbers : List ℕ) where
  -- if the key of the first entry is the numbers, they have a place
  known_head : (e : Vec ℕ × ℕ) (es : List (Vec ℕ × ℕ)) → is_key numbers e.0 ≡ true → place_in (e ∷ es) numbers ≢ None
  known_head e es matches none = none-some e.1 (sym none ∙ lookup_head (is_key numbers) e es matches)

  -- numbers that have a place in the rest have one in all
  known_tail : (e : Vec ℕ × ℕ) (es : List (Vec ℕ × ℕ)) → place_in es numbers ≢ None → place_in (e ∷ es) numbers ≢ None
  known_tail e es known none = elim (cases_Bool (is_key numbers e.0)) [
    | inl matches ↦ known_head e es matches none
    | inr differs ↦ known (sym (lookup_tail (is_key numbers) e es differs) ∙ none)
  ]

  -- a list of numbers that is not the first key has its place among the rest
  known_behind : (e : Vec ℕ × ℕ) (es : List (Vec ℕ × ℕ)) → is_key numbers e.0 ≡ false →
      place_in (e ∷ es) numbers ≢ None →
      place_in es numbers ≢ None
  known_behind e es differs known none = known (lookup_tail (is_key numbers) e es differs ∙ none)

  -- a list of numbers that has a place still has one if a value changes
  known_again : (e : Vec ℕ × ℕ) (v : ℕ) (es : List (Vec ℕ × ℕ)) → place_in (e ∷ es) numbers ≢ None →
      place_in ((e.0, v) ∷ es) numbers ≢ None
  known_again e v es known = elim (cases_Bool (is_key numbers e.0)) [
    | inl matches ↦ known_head (e.0, v) es matches
    | inr differs ↦ known_tail (e.0, v) es (known_behind e es differs known)
  ]

  module _ (k : Vec ℕ) (v : ℕ) where
    -- a step of the next lemma: whichever way the comparison goes, numbers that have a place keep one
    kept_by_order : (e : Vec ℕ × ℕ) (es rest : List (Vec ℕ × ℕ)) → place_in (e ∷ es) numbers ≢ None →
        (place_in es numbers ≢ None → place_in rest numbers ≢ None) → (o : Ordering)
        → place_in (match_ordering o ((k, v) ∷ e ∷ es) ((e.0, v) ∷ es) (e ∷ rest)) numbers ≢ None
    kept_by_order e es rest known keeps Less = known_tail (k, v) (e ∷ es) known
    kept_by_order e es rest known keeps Equal = known_again e v es known
    kept_by_order e es rest known keeps Greater = elim (cases_Bool (is_key numbers e.0)) [
      | inl matches ↦ known_head e rest matches
      | inr differs ↦ known_tail e rest (keeps (known_behind e es differs known))
    ]

    -- numbers that have a place keep one when another entry is put in: by induction on the entries
    known_kept : (es : List (Vec ℕ × ℕ)) → place_in es numbers ≢ None → place_in (with_place es k v) numbers ≢ None
    known_kept [] known = absurd (known refl)
    known_kept (e ∷ es) known =
        kept_by_order e es (with_place es k v) known (known_kept es) (slice_cmp nat_cmp k.items e.0.items)

module _ (k : Vec ℕ) (v : ℕ) where
  -- a step of the next lemma: whichever way the comparison goes, what is put in has a place
  put_in_order : (e : Vec ℕ × ℕ) (es rest : List (Vec ℕ × ℕ)) → place_in rest k.items ≢ None → (o : Ordering) →
      slice_cmp nat_cmp k.items e.0.items ≡ o
      → place_in (match_ordering o ((k, v) ∷ e ∷ es) ((e.0, v) ∷ es) (e ∷ rest)) k.items ≢ None
  put_in_order e es rest known_rest Less at = known_head k.items (k, v) (e ∷ es) (key_itself k.items)
  put_in_order e es rest known_rest Equal at = known_head k.items (e.0, v) es (ap is_eq at)
  put_in_order e es rest known_rest Greater at = known_tail k.items e rest known_rest

  -- what is put in has a place: by induction on the entries
  known_put : (es : List (Vec ℕ × ℕ)) → place_in (with_place es k v) k.items ≢ None
  known_put [] = known_head k.items (k, v) [] (key_itself k.items)
  known_put (e ∷ es) = put_in_order e es (with_place es k v) (known_put es) (slice_cmp nat_cmp k.items e.0.items) refl

-- given: the list of numbers `f i` of each place i, and a place n
module _ (f : ℕ → List ℕ) (n : ℕ) where
  -- of no places the empty map has all first places
  pub none_placed : ArePlaced f 0 []
  none_placed = record { each = search rules; all = λ i within. absurd (omega arith) }

  -- given: a map with the first places of the first n, and that the numbers of the place n keep or get a place
  module _ (old new : List (Vec ℕ × ℕ)) (k : Vec ℕ) (place : ℕ) (placed : ArePlaced f n old) (is : k.items ≡ f n)
      (gets : GetsPlace k n old new place) where
    -- if the numbers have no place, f has them at none before n
    unknown_least : place_in old k.items ≡ None → (j : ℕ) → f j ≡ f n → n ≤ j
    unknown_least none j same_numbers = elim (cases_lt j n) [
      | inl before_n ↦ absurd (placed.all j before_n (ap (place_in old) (same_numbers ∙ sym is) ∙ none))
      | inr not_before ↦ not_before
    ]

    -- the place that the numbers keep or get is the first one at which f has them
    pub first_place : (f place ≡ f n) × ((j : ℕ) → f j ≡ f n → place ≤ j)
    first_place = elim gets [
      | inl had ↦
          let found = placed_found (IsPlaced f n) (λ (j : Vec ℕ). slice_cmp nat_cmp k.items j.items) old place
          placed.each had.0 in
          let same : k.items ≡ found.0.items = exact_bytes k.items found.0.items found.1 in
          (found.2.1 ∙ sym same ∙ is, λ j same_numbers. found.2.2 j (same_numbers ∙ sym is ∙ same))
      | inr is_new ↦ (
        ap f is_new.1,
        λ j same_numbers. let no_sooner = unknown_least is_new.0 j same_numbers in
            omega (arith, is_new.1),
      )
    ]

    -- the entries so far have first places below n + 1, too
    each_still : All (IsPlaced f (n + 1)) old
    each_still = All-weaker (IsPlaced f n) (IsPlaced f (n + 1))
        (λ entry is_placed. (omega (arith, is_placed.0), is_placed.1, is_placed.2)) old placed.each

    -- all entries, with the new one if there is one, have the first places of their numbers
    each_more : All (IsPlaced f (n + 1)) new
    each_more = elim gets [
      | inl had ↦ subst (All (IsPlaced f (n + 1))) (sym had.1) each_still
      | inr is_new ↦ subst (All (IsPlaced f (n + 1))) (sym is_new.2)
          (placed_inserted (IsPlaced f (n + 1)) (λ x y. slice_cmp nat_cmp x.items y.items) k n
          (omega arith, sym is, λ j as_now. unknown_least is_new.0 j (as_now ∙ is))
          (λ j equal. let same : k.items ≡ j.items = exact_bytes k.items j.items equal in
          (omega arith, sym is ∙ same, λ i as_now. unknown_least is_new.0 i (as_now ∙ sym same ∙ is)))
          old each_still)
    ]

    -- numbers that had a place still have one
    known_still : (numbers : List ℕ) → place_in old numbers ≢ None → place_in new numbers ≢ None
    known_still numbers known = elim gets [
      | inl had ↦ subst (λ es. place_in es numbers ≢ None) (sym had.1) known
      | inr is_new ↦ subst (λ es. place_in es numbers ≢ None) (sym is_new.2) (known_kept numbers k n old known)
    ]

    -- the numbers of the place n have one
    known_now : place_in new k.items ≢ None
    known_now = elim gets [
      | inl had ↦ subst (λ es. place_in es k.items ≢ None) (sym had.1) (λ none. none-some place (sym none ∙ had.0))
      | inr is_new ↦ subst (λ es. place_in es k.items ≢ None) (sym is_new.2) (known_put k n old)
    ]

    -- the new map has the first places of the first n + 1
    pub places_more : ArePlaced f (n + 1) new
    places_more = record {
      each = each_more;
      all = λ i within. elim (cases_eq i n) [
        | inl is_n ↦ subst (λ numbers. place_in new numbers ≢ None) (is ∙ ap f (sym is_n)) known_now
        | inr apart ↦ known_still (f i) (placed.all i (omega arith))
      ];
    }

    -- the list of first places, with this place added, has those of the first n + 1
    pub firsts_more : (firsts more : List ℕ) → AreFirstPlaces f n firsts → more ≡ firsts ++ place ∷ [] →
        AreFirstPlaces f (n + 1) more
    firsts_more firsts more firsts_are pushed =
        let earlier : (i : ℕ) → i < n → get_or more i 0 ≡ get_or firsts i 0 =
        λ i within. ap (λ xs. get_or xs i 0) pushed
        ∙ get_or_append_left firsts (place ∷ []) 0 i (omega (arith, firsts_are.count)) in
        let added : get_or more n 0 ≡ place = ap (λ xs. get_or xs n 0) pushed
        ∙ ap (λ i. get_or (firsts ++ place ∷ []) i 0) (sym firsts_are.count) ∙ get_or-append_seam firsts place [] 0 in
        record {
          count = ap length pushed ∙ length-append firsts (place ∷ []) ∙ ap (λ m. m + 1) firsts_are.count;
          -- the new place has the key of scenario n, and those before stay
          same = λ i within. elim (cases_eq i n) [
            | inl is_n ↦ ap (λ j. f (get_or more j 0)) is_n ∙ ap f added ∙ first_place.0 ∙ ap f (sym is_n)
            | inr apart ↦ ap f (earlier i (omega arith)) ∙ firsts_are.same i (omega arith)
          ];
          -- no earlier place has its key
          least = λ i j within same_numbers. elim (cases_eq i n) [
            | inl is_n ↦ let no_later = first_place.1 j (same_numbers ∙ ap f is_n) in
                omega (arith, ap (λ j. get_or more j 0) is_n, added)
            | inr apart ↦ let no_later = firsts_are.least i j (omega arith) same_numbers in
                omega (arith, earlier i (omega arith))
          ];
        }
