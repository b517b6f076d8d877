-- A key made of a cube's literals one by one, by the places of their variables, is that of the lows along the
-- variables.
use Rattle.std.proofs.Common.{ℕ, suc, ◌-◌, ◌+◌, ◌*◌, ◌<◌, ◌≤◌, ◌≡◌, ◌≢◌, ◌⊎◌, ◌==◌, true, false, zero, List, [], ◌∷◌}
use Rattle.std.proofs.Common.{◌++◌, length, map, take, drop, get_or, replicate, Contains, Option, Some, None}
use Rattle.std.proofs.Common.{IsPermutation, nat_lt, arith, refl, sym, ap, ap₂, ◌∙◌, subst, inl, inr, eq-eqb, ne_eqb}
use Rattle.std.proofs.Common.{lt-ltb, le-ltb, append_assoc}
use Rattle.std.specs.Prelude.{slice_set, slice_index_or, insert}
use Rattle.std.specs.List.{AllPairs, list_all}
use Rattle.std.proofs.lemmas.Bool.{and_parts, cases_eq, cases_lt, cond-true, cond-false, eqb-true}
use Rattle.std.proofs.lemmas.List.{append-nil, get_or-replicate, get_or_past, get_or-set_same, get_or-set_other}
use Rattle.std.proofs.lemmas.List.{get_or-take, get_or_default, length-take-le, take_more, drop_more}
use Rattle.std.proofs.lemmas.List.Elements.{All-contains, All-nil, All-push, All-tail, Contains-get_or}
use Rattle.std.proofs.lemmas.List.Elements.{Contains-push_cases}
use Rattle.cpg_base.specs.Graph.{Graph, process_count, process_of, condition_of, value_variable}
use Rattle.cpg_base.specs.Numbers.{is_below, numbers_below}
use Rattle.cpg_base.proofs.Lists.{Contains-first, Contains-rest, Contains-cases, Contains-nil, from_all, same_map}
use Rattle.cpg_base.proofs.Pairs.{AllPairs-first, AllPairs-rest, AllPairs-nil, AllPairs-cons_by, AllPairs-flat_map_in}
use Rattle.cpg_base.proofs.Pairs.{order_apart}
use Rattle.cpg_base.proofs.ConditionProcesses.{process_of_condition_of}
use Rattle.cpg_cube.specs.Cube.{Literal, IsRising, low_in}
use Rattle.cpg_cube.specs.Keys.{asked_from, key_by, left_at, AreBytes, ArePlaces, place_in, with_number, with_any_asked}
use Rattle.cpg_cube.specs.Keys.{with_low_of, with_lows_of, variable_of_value, variables_of, variables_along}
use Rattle.cpg_cube.specs.Keys.{lows_along}
use Rattle.cpg_cube.proofs.BoundSteps.{low_in-last, low_in-before}
use Rattle.cpg_cube.proofs.CubeLows.{low_in-none}
use Rattle.cpg_cube.proofs.KeyOrder.{asked_zero, asked_some, low_in-byte, lows_by_variable, more_first, same_first}
use Rattle.cpg_cube.proofs.KeyOrder.{within_order}
use Rattle.cpg_cube.proofs.Ranges.{rising_first, rising_rest}

-- ---- places, variable by variable

-- at the first of the variables, `left` places are left
left_here : (left u v : ℕ) (us : List ℕ) → u ≡ v → left_at left (u ∷ us) v ≡ left
left_here left u v us same = cond-true (u == v) left (left_at (left - 1) us v) (eq-eqb u v same)

-- at a later variable, as many are left as among the rest of the variables with one place fewer
left_later : (left u v : ℕ) (us : List ℕ) → u ≢ v → left_at left (u ∷ us) v ≡ left_at (left - 1) us v
left_later left u v us other = cond-false (u == v) left (left_at (left - 1) us v) (ne_eqb u v other)

-- no variable has more than `left` places left
left_le : (left : ℕ) (us : List ℕ) (v : ℕ) → left_at left us v ≤ left
-- by induction on the numbers, and by whether `u` is `v`
left_le left [] v = omega arith
left_le left (u ∷ us) v = elim (cases_eq u v) [
  | inl same ↦ omega (arith, left_here left u v us same)
  | inr other ↦ omega (arith, left_later left u v us other, left_le (left - 1) us v)
]

-- a variable that is added at the end has as many places fewer left as there are variables before it
left_last : (left : ℕ) (us : List ℕ) (v : ℕ) → ((u : ℕ) → Contains us u → u ≢ v) →
    left_at left (us ++ v ∷ []) v ≡ left - length us
left_last left [] v none_on = left_here left v v [] refl ∙ omega arith
left_last left (u ∷ us) v none_on = left_later left u v (us ++ v ∷ []) (none_on u (Contains-first u us))
    ∙ left_last (left - 1) us v (λ w member. none_on w (Contains-rest u us w member)) ∙ omega arith

-- a variable w added at the end changes nothing for another variable v
left_before : (left : ℕ) (us : List ℕ) (w v : ℕ) → w ≢ v → left_at left (us ++ w ∷ []) v ≡ left_at left us v
-- by induction on the numbers, and by whether `u` is `v`
left_before left [] w v apart = left_later left w v [] apart
left_before left (u ∷ us) w v apart = elim (cases_eq u v) [
  | inl same ↦ left_here left u v (us ++ w ∷ []) same ∙ sym (left_here left u v us same)
  | inr other ↦ left_later left u v (us ++ w ∷ []) other ∙ left_before (left - 1) us w v apart
      ∙ sym (left_later left u v us other)
]

-- before any place is written, every place is 0
pub places_none : (v : ℕ) → (let none : ℕ = 0 in get_or (replicate 256 none) v none ≡ none)
places_none v = elim (cases_lt v 256) [
  | inl inside ↦ get_or-replicate 256 v 0 0 inside
  | inr past ↦ get_or_past (replicate 256 0) v 0 past
]

-- writing how many places are left at the next variable makes the places of one variable more
pub places_more : (vs : List ℕ) → AllPairs (λ u v. u ≢ v) vs → (i d left : ℕ) → i < length vs → left + i ≡ 256 →
    (places : List ℕ) → length places ≡ 256 →
    slice_index_or vs i d < 256 →
    ((v : ℕ) → get_or places v 0 ≡ left_at 256 (take i vs) v)
    → (v : ℕ) → get_or (slice_set places (slice_index_or vs i d) left) v 0 ≡ left_at 256 (take (i + 1) vs) v
places_more vs apart i d left within is places long small places_are v =
    let u = slice_index_or vs i d in
    subst (λ us. get_or (slice_set places u left) v 0 ≡ left_at 256 us v) (sym (take_more vs i d within))
    (elim (cases_eq u v) [
      | inl same ↦ subst (λ w. get_or (slice_set places u left) w 0 ≡ left_at 256 (take i vs ++ u ∷ []) w) same
          (get_or-set_same places u left 0 (omega (arith, small, long))
          ∙ sym (left_last 256 (take i vs) u (other_before vs apart i d within) ∙ count vs i left within is))
      | inr other ↦ get_or-set_other places u v left 0 (λ equal. other (sym equal)) ∙ places_are v
          ∙ sym (left_before 256 (take i vs) u v other)
    ])
  where
    -- the next variable isn't among those before it
    other_before : (vs : List ℕ) → AllPairs (λ u v. u ≢ v) vs → (i d : ℕ) → i < length vs → (w : ℕ) →
        Contains (take i vs) w →
        w ≢ slice_index_or vs i d
    other_before vs apart i d within w member equal =
        let long = length-take-le i vs (omega arith) in
        let place : member.0 < i = omega arith in
        let same : w ≡ get_or vs member.0 d =
        sym member.2 ∙ get_or-take i vs member.0 w place ∙ get_or_default vs member.0 w d (omega arith) in
        apart member.0 i d place within (sym same ∙ equal)

    -- after i variables, 256 less i places are left
    count : (vs : List ℕ) (i left : ℕ) → i < length vs → left + i ≡ 256 → 256 - length (take i vs) ≡ left
    count vs i left within is = omega (arith, length-take-le i vs (omega (arith, within)), is)

-- ---- the place of a number

-- if the first number a of a key is less than `number`, the place of `number` is in front
stop_at : (number a : ℕ) (key : List ℕ) → nat_lt a number ≡ true → place_in number (a ∷ key) ≡ 0
stop_at number a key less = cond-true (nat_lt a number) 0 (suc (place_in number key)) less

-- if the first number a isn't less than `number`, the place is one further than in the rest
go_on : (number a : ℕ) (key : List ℕ) → nat_lt a number ≡ false → place_in number (a ∷ key) ≡ suc (place_in number key)
go_on number a key not_less = cond-false (nat_lt a number) 0 (suc (place_in number key)) not_less

-- the place of a number is reached at the first lesser number of the key
pub place_here : (number at all : ℕ) (key : List ℕ) → at < length key → nat_lt (slice_index_or key at 0) number ≡ true →
    all ≡ at + place_in number (drop at key) → at ≡ all
place_here number at all key within less is =
    let none : place_in number (drop at key) ≡ 0 = ap (place_in number) (drop_more key at 0 within)
    ∙ stop_at number (slice_index_or key at 0) (drop (at + 1) key) less in
    omega (arith, none, is)

-- if the number of the key at `at` isn't less, the place is behind it
pub place_next : (number at all : ℕ) (key : List ℕ) → at < length key →
    nat_lt (slice_index_or key at 0) number ≡ false →
    all ≡ at + place_in number (drop at key) →
    all ≡ at + 1 + place_in number (drop (at + 1) key)
place_next number at all key within not_less is =
    let on : place_in number (drop at key) ≡ suc (place_in number (drop (at + 1) key)) =
    ap (place_in number) (drop_more key at 0 within) ∙
    go_on number (slice_index_or key at 0) (drop (at + 1) key) not_less in
    omega (arith, on, is)

-- ---- a number put in its place

-- inserting at a place puts a number between what stands before the place and what stands from it on
pub insert_at : (key : List ℕ) (i x : ℕ) → i ≤ length key → insert key i x ≡ take i key ++ x ∷ drop i key
insert_at key zero x inside = refl
insert_at [] (suc i) x inside = absurd (omega (arith, inside))
insert_at (k ∷ key) (suc i) x inside = ap (λ ks. k ∷ ks) (insert_at key i x (omega (arith, inside)))

-- a number whose place is in front is put first
put_front : (number : ℕ) (key : List ℕ) → place_in number key ≡ 0 → with_number number key ≡ number ∷ key
put_front number key in_front = ap (λ n. take n key ++ number ∷ drop n key) in_front

-- a low whose number isn't above the first number a of the key is put behind it
put_past : (p low a : ℕ) (key : List ℕ) → p * 256 + low ≤ a →
    with_any_asked p low (a ∷ key) ≡ a ∷ with_any_asked p low key
-- without a place, the key stays as it is; with one, the new number belongs behind the first
put_past p low a key not_above = elim (cases_eq p 0) [
  | inl is_zero ↦ none (a ∷ key) is_zero ∙ ap (λ k. a ∷ k) (sym (none key is_zero))
  | inr not_zero ↦ some (a ∷ key) not_zero ∙ ap (λ m. take m (a ∷ key) ++ (p * 256 + low) ∷ drop m (a ∷ key))
      (go_on (p * 256 + low) a key (le-ltb a (p * 256 + low) not_above)) ∙ ap (λ k. a ∷ k) (sym (some key not_zero))
]
  where
    -- a low at a variable without places isn't put at all
    none : (key : List ℕ) → p ≡ 0 → with_any_asked p low key ≡ key
    none key is_zero = cond-true (p == 0) key (with_number (p * 256 + low) key) (eq-eqb p 0 is_zero)

    -- at a variable with places it is
    some : (key : List ℕ) → p ≢ 0 → with_any_asked p low key ≡ with_number (p * 256 + low) key
    some key not_zero = cond-false (p == 0) key (with_number (p * 256 + low) key) (ne_eqb p 0 not_zero)

-- a number with more places left than any of a key belongs in front of the key
front : (f : ℕ → ℕ) → ((u : ℕ) → f u < 256) → (number left : ℕ) (vs : List ℕ) → left * 256 + 255 < number →
    place_in number (asked_from left (map f vs)) ≡ 0
-- by induction on the numbers, and by whether `f v` is 0
front f bytes number left [] above = refl
front f bytes number left (v ∷ vs) above = elim (cases_eq (f v) 0) [
  | inl is_zero ↦ ap (place_in number) (asked_zero left (f v) (map f vs) is_zero)
      ∙ front f bytes number (left - 1) vs (omega (arith, above))
  | inr not_zero ↦ ap (place_in number) (asked_some left (f v) (map f vs) not_zero)
      ∙ stop_at number (left * 256 + f v) (asked_from (left - 1) (map f vs))
      (lt-ltb (left * 256 + f v) number (omega (arith, above, bytes v)))
]

-- given: two functions that agree but at v, of which the first is 0 there and the second isn't
module _ (v : ℕ) (f g : ℕ → ℕ) (nothing : f v ≡ 0) (something : g v ≢ 0) (others : (u : ℕ) → u ≢ v → g u ≡ f u)
    (bytes : (u : ℕ) → f u < 256) (byte : g v < 256) where
  -- with the low of v put in its place, the key by f is the key by g, which differs from f at v alone
  inserted : (left : ℕ) (vs : List ℕ) → AllPairs (λ u w. u ≢ w) vs → length vs ≤ left →
      with_any_asked (left_at left vs v) (g v) (asked_from left (map f vs)) ≡ asked_from left (map g vs)
  -- by induction on the numbers, and by whether `u` is `v` and whether `f u` is 0
  inserted left [] apart few = refl
  inserted left (u ∷ us) apart few =
      let rest = AllPairs-rest (λ u w. u ≢ w) u us apart in
      let few_rest : length us ≤ left - 1 = omega (arith, few) in
      let key = asked_from (left - 1) (map f us) in
      elim (cases_eq u v) [
        -- at v itself: its number is put in front of those of the later variables
        | inl here ↦
            let same : map g us ≡ map f us =
            same_map g f us (λ w member. others w
            (λ equal. AllPairs-first (λ u w. u ≢ w) u us apart w member (here ∙ sym equal))) in
            ap₂ (λ p k. with_any_asked p (g v) k) (left_here left u v us here)
            (asked_zero left (f u) (map f us) (ap f here ∙ nothing))
            ∙ cond-false (left == 0) key (with_number (left * 256 + g v) key)
            (ne_eqb left 0 (λ is_zero. omega (arith, is_zero, few)))
            ∙ put_front (left * 256 + g v) key
            (front f bytes (left * 256 + g v) (left - 1) us (omega (arith, few, something)))
            ∙ ap₂ (λ w xs. (left * 256 + w) ∷ asked_from (left - 1) xs) (ap g (sym here)) (sym same)
            ∙ sym (asked_some left (g u) (map g us) (λ is_zero. something (ap g (sym here) ∙ is_zero)))
        -- at another variable: if its low is 0 it adds nothing, and else it stays in front
        | inr elsewhere ↦
            let places_at_v = left_at (left - 1) us v in
            let within = inserted (left - 1) us rest few_rest in
            ap (λ q. with_any_asked q (g v) (asked_from left (f u ∷ map f us))) (left_later left u v us elsewhere)
            ∙ elim (cases_eq (f u) 0) [
              | inl is_zero ↦ ap (with_any_asked places_at_v (g v)) (asked_zero left (f u) (map f us) is_zero) ∙ within
                  ∙ sym (asked_zero left (g u) (map g us) (others u elsewhere ∙ is_zero))
              | inr not_zero ↦ ap (with_any_asked places_at_v (g v)) (asked_some left (f u) (map f us) not_zero)
                  ∙ put_past places_at_v (g v) (left * 256 + f u) key
                  (omega (arith, left_le (left - 1) us v, few, byte))
                  ∙ ap₂ (λ w k. (left * 256 + w) ∷ k) (sym (others u elsewhere)) within
                  ∙ sym (asked_some left (g u) (map g us) (λ is_zero. not_zero (sym (others u elsewhere) ∙ is_zero)))
            ]
      ]

-- ---- a key literal by literal

-- given: `places` has, by variable, how many places are left at each of the variables
module _ (variables places : List ℕ) (are : ArePlaces variables places) where
  -- a key of literals `done` with the low of a literal on a variable above them is the key of these and that literal
  one_more : (done : List Literal) (l : Literal) → AreBytes done → l.low < 256 →
      ((m : Literal) → Contains done m → m.variable < l.variable) →
      with_low_of places l (key_by variables done) ≡ key_by variables (done ++ l ∷ [])
  one_more done l bytes byte lower =
      let new_low : low_in (done ++ l ∷ []) l.variable ≡ l.low = low_in-last done l lower in
      let old_low : low_in done l.variable ≡ 0 =
      low_in-none done l.variable (λ m member equal. omega (arith, lower m member, equal)) in
      let others : (u : ℕ) → u ≢ l.variable → low_in (done ++ l ∷ []) u ≡ low_in done u =
      λ u other. low_in-before done l u (λ equal. other (sym equal)) in
      let key = key_by variables done in
      elim (cases_eq l.low 0) [
        | inl is_zero ↦ cond-true (l.low == 0) key (with_any_asked (get_or places l.variable 0) l.low key)
            (eq-eqb l.low 0 is_zero)
            ∙ ap (asked_from 256)
            (same_map (low_in done) (low_in (done ++ l ∷ [])) variables
            (λ u member. same done l u old_low (new_low ∙ is_zero) others))
        | inr not_zero ↦ cond-false (l.low == 0) key (with_any_asked (get_or places l.variable 0) l.low key)
            (ne_eqb l.low 0 not_zero)
            ∙ ap₂ (λ p w. with_any_asked p w key) (are.left l.variable) (sym new_low)
            ∙ inserted l.variable (low_in done) (low_in (done ++ l ∷ [])) old_low
            (λ is_zero. not_zero (sym new_low ∙ is_zero)) others
            (low_in-byte done bytes) (omega (arith, new_low, byte)) 256 variables are.apart are.few
      ]
    where
      -- if the low of l's variable is 0 before and after, all lows are as they were
      same : (done : List Literal) (l : Literal) (u : ℕ) → low_in done l.variable ≡ 0 →
          low_in (done ++ l ∷ []) l.variable ≡ 0 →
          ((u : ℕ) → u ≢ l.variable → low_in (done ++ l ∷ []) u ≡ low_in done u) →
          low_in done u ≡ low_in (done ++ l ∷ []) u
      same done l u old_low new_low others = elim (cases_eq u l.variable) [
        | inl same_variable ↦ ap (low_in done) same_variable ∙ old_low ∙ sym new_low
            ∙ ap (low_in (done ++ l ∷ [])) (sym same_variable)
        | inr other ↦ sym (others u other)
      ]

  -- the key of `done` with the lows of `ls` is the key of both; one literal of `ls` after another
  all_more : (done ls : List Literal) → AreBytes done → AreBytes ls → IsRising ls →
      ((m l : Literal) → Contains done m → Contains ls l → m.variable < l.variable) →
      with_lows_of places ls (key_by variables done) ≡ key_by variables (done ++ ls)
  all_more done [] before bytes rising lower = ap (key_by variables) (sym (append-nil done))
  all_more done (l ∷ ls) before bytes rising lower =
      ap (with_lows_of places ls)
      (one_more done l before (bytes 0 l (omega arith)) (λ m member. lower m l member (Contains-first l ls)))
      ∙ all_more (done ++ l ∷ []) ls (All-push is_byte done l before (bytes 0 l (omega arith)))
      (All-tail is_byte l ls bytes) (rising_rest l ls rising)
      (λ m n in_more in_rest. elim (Contains-push_cases done l m in_more) [
        | inl in_old ↦ lower m n in_old (Contains-rest l ls n in_rest)
        | inr is_l ↦ subst (λ (x : Literal). x.variable < n.variable) is_l (rising_first l n ls rising in_rest)
      ])
      ∙ ap (key_by variables) (append_assoc done (l ∷ []) ls)
    where
      -- a low that fits in a byte
      is_byte : Literal → Type 0
      is_byte m = m.low < 256

  -- putting the lows of a cube's literals one by one makes the cube's key
  pub key_made : (cube : List Literal) → AreBytes cube → IsRising cube → (key : List ℕ) →
      with_lows_of places cube [] ≡ key →
      key ≡ key_by variables cube
  key_made cube bytes rising key is = sym is ∙ ap (with_lows_of places cube) (sym (empty 256 variables)) ∙
      all_more [] cube (All-nil (λ (l : Literal). l.low < 256)) bytes rising
      (λ m l in_none in_cube. absurd (Contains-nil m in_none))
    where
      -- without literals every low is 0, so the key is empty
      empty : (left : ℕ) (vs : List ℕ) → asked_from left (map (low_in []) vs) ≡ []
      empty left [] = refl
      empty left (v ∷ vs) = empty (left - 1) vs

-- ---- a key block by block

-- the lows of a block and of the rest are put one after the other
pub lows_after : (places : List ℕ) (block rest : List Literal) (key : List ℕ) →
    with_lows_of places (block ++ rest) key ≡ with_lows_of places rest (with_lows_of places block key)
lows_after places [] rest key = refl
lows_after places (l ∷ block) rest key = lows_after places block rest (with_low_of places l key)

-- literals that all begin at 0 leave the key as it is
pub none_put : (places : List ℕ) (ls : List Literal) (key : List ℕ) → list_all (λ (l : Literal). l.low == 0) ls ≡ true →
    with_lows_of places ls key ≡ key
-- by induction on the literals
none_put places [] key all_zero = refl
none_put places (l ∷ ls) key all_zero =
    let parts = and_parts (l.low == 0) (list_all (λ (m : Literal). m.low == 0) ls) all_zero in
    ap (with_lows_of places ls)
    (cond-true (l.low == 0) key (with_any_asked (get_or places l.variable 0) l.low key) parts.0)
    ∙ none_put places ls key parts.1

-- literals that all begin at 0 have lows of a byte
pub bytes_of_none : (ls : List Literal) → list_all (λ (l : Literal). l.low == 0) ls ≡ true → AreBytes ls
bytes_of_none ls all_zero k d inside = omega (
  arith,
  eqb-true (get_or ls k d).low 0
      (from_all (λ (m : Literal). m.low == 0) ls (get_or ls k d) all_zero (Contains-get_or ls k d inside)),
)

-- ---- the variables along an order are each there once

-- given: a graph of at most 128 processes
module _ (g : Graph) (few : process_count g ≤ 128) where
  -- the variables of one process differ
  own_apart : (p : ℕ) → p < process_count g → AllPairs (λ u v. u ≢ v) (variables_of g p)
  own_apart p is_process = one p is_process (condition_of g p)
    where
      -- the variables of one process differ: its count, and the value of its condition if it has one
      one : (p : ℕ) → p < process_count g → (o : Option ℕ) → AllPairs (λ u v. u ≢ v) (p ∷ variable_of_value o)
      one p is_process None =
          AllPairs-cons_by (λ u v. u ≢ v) p [] (λ y member. absurd (Contains-nil y member))
          (AllPairs-nil (λ u v. u ≢ v))
      one p is_process (Some c) = AllPairs-cons_by (λ u v. u ≢ v) p (value_variable c ∷ [])
          (λ y member equal. elim (Contains-cases (value_variable c) [] y member) [
            | inl is ↦ omega (arith, is, equal, is_process, few)
            | inr in_none ↦ Contains-nil y in_none
          ])
          (AllPairs-cons_by (λ u v. u ≢ v) (value_variable c) [] (λ y member. absurd (Contains-nil y member))
          (AllPairs-nil (λ u v. u ≢ v)))

  -- a variable of process p is its count, or the value of its condition
  own_cases : (p v : ℕ) → Contains (variables_of g p) v →
      (p ≡ v) ⊎ ((c : ℕ) × (condition_of g p ≡ Some c) × (value_variable c ≡ v))
  own_cases p v member = elim (Contains-cases p (variable_of_value (condition_of g p)) v member) [
    | inl is_count ↦ inl is_count
    | inr of_condition ↦ inr (of_value (condition_of g p) refl of_condition)
  ]
    where
      -- a condition's variable is that of the condition that the process has
      of_value : (o : Option ℕ) → condition_of g p ≡ o → Contains (variable_of_value o) v →
          (c : ℕ) × (condition_of g p ≡ Some c) × (value_variable c ≡ v)
      of_value None condition_is in_values = absurd (Contains-nil v in_values)
      of_value (Some c) condition_is in_values = elim (Contains-cases (value_variable c) [] v in_values) [
        | inl is ↦ (c, condition_is, is)
        | inr in_none ↦ absurd (Contains-nil v in_none)
      ]

  -- variables of two processes differ: counts and values differ, and a condition has one process
  across : (p q u v : ℕ) → p < process_count g → q < process_count g → p ≢ q → Contains (variables_of g p) u →
      Contains (variables_of g q) v → u ≢ v
  across p q u v p_below q_below differ in_p in_q equal = elim (own_cases p u in_p) [
    | inl p_count ↦ elim (own_cases q v in_q) [
      | inl q_count ↦ differ (p_count ∙ equal ∙ sym q_count)
      | inr q_value ↦ omega (arith, p_count, equal, q_value.2, p_below, few)
    ]
    | inr p_value ↦ elim (own_cases q v in_q) [
      | inl q_count ↦ omega (arith, q_count, equal, p_value.2, q_below, few)
      | inr q_value ↦ differ
          (sym (process_of_condition_of g p p_value.0 p_value.1)
          ∙ process_same p_value.0 q_value.0 (omega (arith, p_value.2, q_value.2, equal))
          ∙ process_of_condition_of g q q_value.0 q_value.1)
    ]
  ]
    where
      -- equal conditions c and d have the same process
      process_same : (c d : ℕ) → c ≡ d → process_of g c ≡ process_of g d
      process_same c d equal = ap (process_of g) equal

  -- no variable comes twice along an order
  pub variables_apart : (order : List ℕ) → IsPermutation (numbers_below (process_count g)) order →
      AllPairs (λ u v. u ≢ v) (variables_along g order)
  variables_apart order all =
      let within = within_order (process_count g) order all in
      let below : (p : ℕ) → Contains order p → p < process_count g =
      λ p member. All-contains (λ p. p < process_count g) order p within member in
      AllPairs-flat_map_in (λ p q. p ≢ q) (λ u v. u ≢ v) (variables_of g) order
      (λ p member. own_apart p (below p member))
      (λ p q u v p_in q_in differ in_p in_q. across p q u v (below p p_in) (below q q_in) differ in_p in_q)
      (order_apart (process_count g) order all)

-- ---- two lists of lows that first differ at a variable

-- if f and h agree before v and f is less at v, the list by h is not before the list by f
lows_above : (f h : ℕ → ℕ) (v left : ℕ) (vs : List ℕ) → length vs ≤ left → left_at left vs v ≢ 0 →
    ((u : ℕ) → left_at left vs v < left_at left vs u → f u ≡ h u) → f v < h v →
    is_below (map h vs) (map f vs) ≡ false
-- by induction on the numbers, and by whether `u` is `v` and whether `u` is `w`
lows_above f h v left [] few there same less = absurd (there refl)
lows_above f h v left (u ∷ us) few there same less = elim (cases_eq u v) [
  | inl here ↦ more_first (h u) (f u) (map h us) (map f us) (subst (λ w. f w < h w) (sym here) less)
  | inr elsewhere ↦
      let later : left_at left (u ∷ us) v ≡ left_at (left - 1) us v = left_later left u v us elsewhere in
      let equal : f u ≡ h u = same u (omega (arith, later, left_here left u u us refl, left_le (left - 1) us v, few)) in
      ap (λ x. is_below (h u ∷ map h us) (x ∷ map f us)) equal ∙ same_first (h u) (map h us) (map f us)
      ∙ lows_above f h v (left - 1) us (omega (arith, few)) (λ is_zero. there (later ∙ is_zero))
      (λ w earlier. elim (cases_eq u w) [
        | inl is_w ↦ subst (λ x. f x ≡ h x) is_w equal
        | inr not_w ↦ same w (omega (arith, later, left_later left u w us not_w, earlier))
      ]) less
]

-- if the lows of two cubes first differ at a variable along an order, the one with the greater low isn't before the
-- other
pub first_differ : (g : Graph) (order places : List ℕ) → ArePlaces (variables_along g order) places →
    (a b : List Literal) (v : ℕ) →
    get_or places v 0 ≢ 0 →
    ((u : ℕ) → get_or places v 0 < get_or places u 0 → low_in a u ≡ low_in b u) →
    low_in a v < low_in b v → is_below (lows_along g order (low_in b)) (lows_along g order (low_in a)) ≡ false
first_differ g order places is a b v there same less =
    ap₂ is_below (sym (lows_by_variable g order (low_in b))) (sym (lows_by_variable g order (low_in a)))
    ∙ lows_above (low_in a) (low_in b) v 256 (variables_along g order) is.few (λ is_zero. there (is.left v ∙ is_zero))
    (λ u earlier. same u (omega (arith, is.left v, is.left u, earlier))) less
