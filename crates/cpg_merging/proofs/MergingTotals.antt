-- If no column's total is that of another one changed at a literal on a variable, no two columns of one time touch
-- there. Then, what the code that marks such variables relies on.
use Rattle.std.proofs.Common.{ℕ, ◌+◌, ◌-◌, ◌%◌, ◌^◌, ◌<◌, ◌≤◌, ◌≡◌, ◌≢◌, ◌⊎◌, ◌==◌, Bool, true, false, not, List, []}
use Rattle.std.proofs.Common.{◌∷◌, length, take, get_or, map, sum_by, Contains, IsPermutation, arith, refl, sym}
use Rattle.std.proofs.Common.{ap, ap₂, ◌∙◌, subst, inl, inr, eq-eqb, ne_eqb, true≢false, Result, Ok, Err}
use Rattle.std.specs.Prelude.{slice_set}
use Rattle.std.specs.Bool.{OnFalse}
use Rattle.std.specs.List.{list_any}
use Rattle.std.specs.List.Sorted.{IsBinarySearchResult}
use Rattle.std.specs.Ordering.{nat_cmp}
use Rattle.std.specs.Result.{is_ok}
use Rattle.std.proofs.lemmas.Bool.{cases_eq, cases_lt, cond-true, cond-false}
use Rattle.std.proofs.lemmas.List.Elements.{Contains-get_or, Contains-push_cases}
use Rattle.std.proofs.lemmas.List.{take_more, take_all, get_or_default, get_or_past, get_or-map, get_or-set_other}
use Rattle.std.proofs.lemmas.List.{get_or-set_same, length-map}
use Rattle.std.proofs.lemmas.List.Sorted.{Contains-permutation, IsPermutation-sym, searched}
use Rattle.std.proofs.lemmas.List.Sums.{sum_by-cons}
use Rattle.cpg_base.specs.Graph.{Graph, process_count, IsVariable}
use Rattle.cpg_base.proofs.Lists.{from_any_false, Contains-first, Contains-rest, Contains-cases, Contains-nil}
use Rattle.cpg_cube.specs.declared.literal.Literal.{Literal}
use Rattle.cpg_cube.specs.Cube.{IsRising, low_in, high_in}
use Rattle.cpg_base.specs.Variable.{top}
use Rattle.cpg_cube.proofs.Ranges.{rising_rest, rising_first}
use Rattle.cpg_cube.specs.declared.column.Column.{Column}
use Rattle.cpg_merging.specs.Merging.{without, TouchAt}
use Rattle.cpg_merging.specs.Totals.{mixed, hash_of, total_of, ended, HasNoPartner, IsMarked, AreMarkedBy, AreMarked}
use Rattle.cpg_merging.specs.Totals.{DoNotFall, place_in}
use Rattle.cpg_merging.proofs.MergingPairs.{IsGood, low-le-high, high_in-top}
use Rattle.cpg_merging.proofs.MergingSettled.{same_without}

-- the literal that says a cube's range of variable v
abbrev pub of_range : ℕ → List Literal → ℕ → Literal
of_range k cube v = record { variable = v; low = low_in cube v; high = high_in k cube v }

-- the first literal of a list is the list's range of the literal's variable
range_here : (k : ℕ) (l : Literal) (ls : List Literal) (v : ℕ) → l.variable ≡ v → l ≡ of_range k (l ∷ ls) v
range_here k l ls v on_v = subst (λ w. l ≡ of_range k (l ∷ ls) w) on_v
    (ap₂ (λ low high. record { variable = l.variable; low = low; high = high })
    (sym (cond-true (l.variable == l.variable) l.low (low_in ls l.variable) (eq-eqb _ _ refl)))
    (sym (cond-true (l.variable == l.variable) l.high (high_in k ls l.variable) (eq-eqb _ _ refl))))

-- a first literal on another variable doesn't change the range of v
range_later : (k : ℕ) (l : Literal) (ls : List Literal) (v : ℕ) → l.variable ≢ v →
    of_range k ls v ≡ of_range k (l ∷ ls) v
range_later k l ls v other = ap₂ (λ low high. record { variable = v; low = low; high = high })
    (sym (cond-false (l.variable == v) l.low (low_in ls v) (ne_eqb _ _ other)))
    (sym (cond-false (l.variable == v) l.high (high_in k ls v) (ne_eqb _ _ other)))

-- if a cube's range of v isn't the whole one, a literal says it
pub spoken : (k : ℕ) (cube : List Literal) (v : ℕ) → (0 < low_in cube v) ⊎ (high_in k cube v < top k v) →
    Contains cube (of_range k cube v)
-- by induction on the cube: its first literal is on v, or the range is that of the others
spoken k [] v (inl not_whole) = absurd (omega (arith, not_whole))
spoken k [] v (inr not_whole) = absurd (omega (arith, not_whole))
spoken k (l ∷ ls) v not_whole = elim (cases_eq l.variable v) [
  | inl on_v ↦ subst (Contains (l ∷ ls)) (range_here k l ls v on_v) (Contains-first l ls)
  | inr other ↦ subst (Contains (l ∷ ls)) (range_later k l ls v other)
      (Contains-rest l ls (of_range k ls v) (spoken k ls v (later other not_whole)))
]
  where
    -- a first literal on another variable says nothing of v, so the rest does
    later : l.variable ≢ v → (0 < low_in (l ∷ ls) v) ⊎ (high_in k (l ∷ ls) v < top k v) →
        (0 < low_in ls v) ⊎ (high_in k ls v < top k v)
    later other (inl above) =
        inl (subst (λ w. 0 < w) (cond-false (l.variable == v) l.low (low_in ls v) (ne_eqb _ _ other)) above)
    later other (inr below) =
        inr (subst (λ w. w < top k v) (cond-false (l.variable == v) l.high (high_in k ls v) (ne_eqb _ _ other)) below)

-- ---- the sum over a cube is that over the other literals and the one on the variable

-- a first literal on v is left out
without_same : (v : ℕ) (l : Literal) (ls : List Literal) → l.variable ≡ v → without v (l ∷ ls) ≡ without v ls
without_same v l ls on_v =
    cond-false (not (l.variable == v)) (l ∷ without v ls) (without v ls) (ap not (eq-eqb _ _ on_v))

-- a first literal on another variable stays
without_other : (v : ℕ) (l : Literal) (ls : List Literal) → l.variable ≢ v → without v (l ∷ ls) ≡ l ∷ without v ls
without_other v l ls other =
    cond-true (not (l.variable == v)) (l ∷ without v ls) (without v ls) (ap not (ne_eqb _ _ other))

-- if no literal is on v, all stay
without_none : (v : ℕ) (ls : List Literal) → ((m : Literal) → Contains ls m → m.variable ≢ v) → without v ls ≡ ls
-- by induction on the list
without_none v [] none_on = refl
without_none v (l ∷ ls) none_on = without_other v l ls (none_on l (Contains-first l ls))
    ∙ ap (λ ms. l ∷ ms) (without_none v ls (λ m member. none_on m (Contains-rest l ls m member)))

-- a sum over a rising cube is that over its literals on other variables and its one literal on v
pub sum_parts : (f : Literal → ℕ) (v : ℕ) (cube : List Literal) → IsRising cube → (l : Literal) → Contains cube l →
    l.variable ≡ v →
    sum_by f cube ≡ sum_by f (without v cube) + f l
-- by induction on the cube: the first literal is the one on v, and no other is; or it is on another variable
sum_parts f v [] rising l member on_v = absurd (Contains-nil l member)
sum_parts f v (m ∷ ms) rising l member on_v = elim (Contains-cases m ms l member) [
  | inl is_m ↦ omega (
    arith,
    sum_by-cons f m ms,
    ap (sum_by f) (without_same v m ms (ap (λ (x : Literal). x.variable) is_m ∙ on_v)),
    ap (sum_by f) (without_none v ms
        (λ n in_rest n_on_v. absurd
        (omega (arith, rising_first m n ms rising in_rest, n_on_v, on_v, ap (λ (x : Literal). x.variable) is_m)))),
    ap f is_m,
  )
  | inr in_rest ↦ omega (
    arith,
    sum_by-cons f m ms,
    sum_by-cons f m (without v ms),
    ap (sum_by f) (without_other v m ms
        (λ m_on_v. absurd (omega (arith, rising_first m l ms rising in_rest, m_on_v, on_v)))),
    sum_parts f v ms (rising_rest m ms rising) l in_rest on_v,
  )
]

-- ---- The sums of columns that touch differ in one literal.

-- if x + h and r + h are equal modulo 2 ^ 64, so are x + i and r + i
pub one_rest : (x r h i : ℕ) → (x + h) % 2 ^ 64 ≡ (r + h) % 2 ^ 64 → (x + i) % 2 ^ 64 ≡ (r + i) % 2 ^ 64
one_rest x r h i same = omega (arith, same)

-- given: a variable of the graph
module _ (g : Graph) (few : process_count g ≤ 128) (v : ℕ) (known : IsVariable g v) where
  -- if d follows c at v, and c's total is among the totals, it is false that d's literal on v has no partner
  pub touch_partner : (c d : Column) → IsGood g c.cube → IsGood g d.cube → c.time ≡ d.time →
      TouchAt g.faults v c.cube d.cube → (totals : List ℕ) →
      Contains totals (total_of c)
      → ((l : Literal) → Contains d.cube l → l.variable ≡ v → HasNoPartner totals (total_of d) l) → ⊥
  touch_partner c d good_c good_d same touch totals there none =
      -- both columns have a literal on v and the same rest: the total of c is the sum of that rest with d's literal
      -- changed to the range of c, which is a partner of d's literal
      let k = g.faults in
      let next : high_in k c.cube v + 1 ≡ low_in d.cube v = touch.next in
      let low_c = low-le-high k c.cube good_c.met v in
      let low_d = low-le-high k d.cube good_d.met v in
      let high_d = high_in-top k d.cube (λ i e inside. (good_d.narrow i e inside).1) v in
      let lc : Contains c.cube (of_range k c.cube v) = spoken k c.cube v (inr (omega (arith, next, low_d, high_d))) in
      let ld : Contains d.cube (of_range k d.cube v) = spoken k d.cube v (inl (omega (arith, next))) in
      let rest : ℕ = mixed 0 d.time + sum_by hash_of (without v d.cube) in
      let sum_c : mixed 0 c.time + sum_by hash_of c.cube ≡ rest + hash_of (of_range k c.cube v) =
      add_parts (mixed 0 c.time) (sum_by hash_of c.cube) (mixed 0 d.time) (sum_by hash_of (without v d.cube))
      (hash_of (of_range k c.cube v)) (ap (mixed 0) same)
      (sum_parts hash_of v c.cube good_c.cube.rising (of_range k c.cube v) lc refl
      ∙ ap (λ ls. sum_by hash_of ls + hash_of (of_range k c.cube v))
      (same_without g few v known c.cube d.cube good_c good_d touch.others)) in
      let sum_d : mixed 0 d.time + sum_by hash_of d.cube ≡ rest + hash_of (of_range k d.cube v) =
      add_parts (mixed 0 d.time) (sum_by hash_of d.cube) (mixed 0 d.time) (sum_by hash_of (without v d.cube))
      (hash_of (of_range k d.cube v)) refl
      (sum_parts hash_of v d.cube good_d.cube.rising (of_range k d.cube v) ld refl) in
      let high : high_in k c.cube v ≡ low_in d.cube v - 1 = omega (arith, next) in
      let end : of_range k c.cube v ≡ ended (of_range k d.cube v) (low_in c.cube v) =
      ap (λ (n : ℕ). record { variable = v; low = low_in c.cube v; high = n }) high in
      none (of_range k d.cube v) ld refl (low_in c.cube v) rest (omega (arith, low_c, next))
      (ap (λ n. n % 2 ^ 64) (sym sum_d))
      (subst (Contains totals)
      (ap (λ n. n % 2 ^ 64) sum_c ∙ ap (λ (l : Literal). (rest + hash_of l) % 2 ^ 64) end) there)
    where
      -- if s is r, and t is w and h, the sum of s and t is that of r, w and h
      add_parts : (s t r w h : ℕ) → s ≡ r → t ≡ w + h → s + t ≡ r + w + h
      add_parts s t r w h s_is t_is = omega (arith, s_is, t_is)

-- marks by the sorted totals are marks by the totals
pub marked_sorted : (columns : List Column) (marks : List Bool) (sorted : List ℕ) →
    IsPermutation (map total_of columns) sorted →
    AreMarkedBy sorted marks columns →
    AreMarkedBy (map total_of columns) marks columns
marked_sorted columns marks sorted permuted marked = λ d l d_in l_in off low rest less is there.
    marked d l d_in l_in off low rest less is (Contains-permutation (map total_of columns) sorted _ permuted there)

-- marks that are right for columns are right for them in another order
pub marked_permuted : (g : Graph) (xs ys : List Column) (marks : List Bool) → IsPermutation xs ys →
    AreMarked g marks xs →
    AreMarked g marks ys
marked_permuted g xs ys marks permuted marked = λ v known off c d c_in d_in.
    let back = IsPermutation-sym xs ys permuted in
    marked v known off c d (Contains-permutation ys xs c back c_in) (Contains-permutation ys xs d back d_in)

-- if a test is false, what it gives on false holds
pub from_off : {P : Type 0} (b : Bool) → b ≡ false → OnFalse b P → P
from_off true is_off holds = cc
from_off false is_off holds = holds

-- what holds of the elements before a place, and of the one there, holds of those before the next place
pub all_more : {X : Type 0} (P : X → Type 0) (xs : List X) (i : ℕ) (d : X) → i < length xs →
    ((m : X) → Contains (take i xs) m → P m) → P (get_or xs i d) → (m : X) → Contains (take (i + 1) xs) m → P m
all_more P xs i d within before here m member =
    elim (Contains-push_cases (take i xs) (get_or xs i d) m
    (subst (λ ys. Contains ys m) (take_more xs i d within) member)) [
      | inl earlier ↦ before m earlier
      | inr is_next ↦ subst P is_next here
    ]

-- what holds of the first i elements holds of all, if there are at most i
pub all_of : {X : Type 0} (P : X → Type 0) (xs : List X) (i : ℕ) → length xs ≤ i →
    ((m : X) → Contains (take i xs) m → P m) → (m : X) → Contains xs m → P m
all_of P xs i long before m member = before m (subst (λ ys. Contains ys m) (sym (take_all i xs long)) member)

-- if a sieve is marked at the places of the first i numbers of a list, and the place of the next number is marked as
-- well, it is marked at those of the first i + 1
pub sieve_more : (sieve : List Bool) (count place : ℕ) (numbers : List ℕ) (i d : ℕ) → i < length numbers →
    length sieve ≡ count → place ≡ place_in count (get_or numbers i d) → place < count
    → ((n : ℕ) → Contains (take i numbers) n → IsMarked sieve (place_in count n)) → (n : ℕ) →
    Contains (take (i + 1) numbers) n → IsMarked (slice_set sieve place true) (place_in count n)
sieve_more sieve count place numbers i d within long is inside before n member =
    all_more (λ (m : ℕ). IsMarked (slice_set sieve place true) (place_in count m)) numbers i d within
    (λ m earlier. kept (place_in count m) (before m earlier))
    (subst (IsMarked (slice_set sieve place true)) is here) n member
  where
    -- the place that is set is marked
    here : IsMarked (slice_set sieve place true) place
    here = get_or-set_same sieve place true false (omega (arith, inside, long))

    -- a mark that was set stays
    kept : (q : ℕ) → IsMarked sieve q → IsMarked (slice_set sieve place true) q
    kept q on = elim (cases_eq q place) [
      | inl same_place ↦ subst (IsMarked (slice_set sieve place true)) (sym same_place) here
      | inr other ↦ get_or-set_other sieve place q true false other ∙ on
    ]

-- a number that a binary search of sorted numbers doesn't find isn't among them
pub not_there : (xs : List ℕ) (x : ℕ) (r : Result ℕ ℕ) → IsBinarySearchResult (λ y. nat_cmp y x) xs r → DoNotFall xs →
    OnFalse (is_ok r) (Contains xs x → ⊥)
-- the search gives a place: the numbers before it are less than x, and those from it on greater
not_there xs x (Ok i) h up = tt
not_there xs x (Err i) result up = λ there.
    let parts = searched xs x (Err i) result up in
    let is : get_or xs there.0 0 ≡ x = sym (get_or_default xs there.0 x 0 there.1) ∙ there.2 in
    elim (cases_lt there.0 i) [
      | inl low ↦ omega (arith, parts.1 there.0 low, is)
      | inr high ↦ omega (arith, parts.2 there.0 high there.1, is)
    ]

-- ---- marks of variables

-- if no mark passes a test that set marks pass, no number is marked
pub none_on : (p : Bool → Bool) → p true ≡ true → (marks : List Bool) → list_any p marks ≡ false → (v : ℕ) →
    ¬ IsMarked marks v
none_on p is marks none v on = elim (cases_lt v (length marks)) [
  | inl inside ↦ true≢false (sym is
      ∙ from_any_false p marks true none (subst (Contains marks) on (Contains-get_or marks v false inside)))
  | inr past ↦ true≢false (sym on ∙ get_or_past marks v false past)
]

-- changing a mark that wasn't set keeps the marks that were
pub mark_kept : (marks : List Bool) (place : ℕ) (b : Bool) → get_or marks place false ≡ false → (v : ℕ) →
    IsMarked marks v →
    IsMarked (slice_set marks place b) v
mark_kept marks place b off v on = elim (cases_eq v place) [
  | inl same_place ↦ absurd (true≢false (sym on ∙ ap (λ (p : ℕ). get_or marks p false) same_place ∙ off))
  | inr other ↦ get_or-set_other marks place v b false other ∙ on
]

-- if a place isn't marked after b is written there, b is false
pub mark_off : (marks : List Bool) (place : ℕ) (b : Bool) → place < length marks →
    ¬ IsMarked (slice_set marks place b) place → b ≡ false
mark_off marks place true within off = absurd (off (get_or-set_same marks place true false within))
mark_off marks place false within off = refl

-- given: columns that f reads, and totals
module _ {X : Type 0} (f : X → Column) (sums : List ℕ) (columns : List X) where
  -- If marks are right for the columns before a place, and new ones keep them and are right for the column there, the
  -- new ones are right for the columns before the next place.
  pub marked_next : (totals : List ℕ) (old new : List Bool) (place : ℕ) (x : X) → place < length columns →
      x ≡ get_or columns place x →
      totals ≡ map total_of (map f columns) →
      ((v : ℕ) → IsMarked old v → IsMarked new v)
      → ((l : Literal) → Contains (f x).cube l → ¬ IsMarked new l.variable →
      HasNoPartner sums (get_or totals place 0) l) → AreMarkedBy sums old (take place (map f columns)) →
      AreMarkedBy sums new (take (place + 1) (map f columns))
  marked_next totals old new place x within is totals_are kept here before d l member = all_more
      (λ (y : Column). (n : Literal) → Contains y.cube n → ¬ IsMarked new n.variable → HasNoPartner sums (total_of y) n)
      (map f columns) place (f x) long (λ y y_in n n_in off. before y n y_in n_in (λ on. off (kept n.variable on)))
      (subst (λ (y : Column). (n : Literal) → Contains y.cube n → ¬ IsMarked new n.variable →
      HasNoPartner sums (total_of y) n) (sym at) now) d member l
    where
      -- as many columns are mapped as there are, so the place is within
      long : place < length (map f columns)
      long = let same = length-map columns f in omega (arith, within, same)

      -- the column at the place
      at : get_or (map f columns) place (f x) ≡ f x
      at = get_or-map f columns place x (f x) within ∙ ap f (sym is)

      -- the sum at the place is that of the column there
      total : get_or totals place 0 ≡ total_of (f x)
      total = ap (λ (ns : List ℕ). get_or ns place 0) totals_are
          ∙ get_or-map total_of (map f columns) place (f x) 0 long
          ∙ ap total_of at

      -- its literals that aren't marked have no partner
      now : (n : Literal) → Contains (f x).cube n → ¬ IsMarked new n.variable → HasNoPartner sums (total_of (f x)) n
      now = subst (λ (t : ℕ). (n : Literal) → Contains (f x).cube n → ¬ IsMarked new n.variable → HasNoPartner sums t n)
          total here

  -- at the end of the columns the marks are right for all of them
  pub marked_all : (marks : List Bool) (place : ℕ) → length columns ≤ place →
      AreMarkedBy sums marks (take place (map f columns)) →
      AreMarkedBy sums marks (map f columns)
  marked_all marks place long before d l member = all_of (λ (y : Column). (n : Literal) → Contains y.cube n →
      ¬ IsMarked marks n.variable → HasNoPartner sums (total_of y) n) (map f columns) place
      (let same = length-map columns f in omega (arith, long, same)) (λ y y_in n. before y n y_in) d member l
