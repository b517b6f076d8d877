-- Processes that are put in order one after another: what each waits for, and what there is at the end.
use Rattle.std.proofs.Common.{ℕ, ◌+◌, ◌-◌, ◌<◌, ◌≤◌, ◌≡◌, ◌≢◌, ◌⊎◌, inl, inr, Bool, true, false, not, cond, ◌==◌, List}
use Rattle.std.proofs.Common.{[], ◌∷◌, ◌++◌, length, get_or, set, take, filter, Contains, IsPermutation}
use Rattle.std.proofs.Common.{arith, refl, sym, ap, ◌∙◌, subst, true≢false, length-append, length-take, drop}
use Rattle.std.proofs.Common.{length-set, get_or-set_other, get_or-set_same, eqb-true, eq-eqb}
use Rattle.std.specs.List.{AllPairs}
use Rattle.std.proofs.lemmas.Bool.{cases_Bool, cases_eq, cases_lt, both_ways, ne_eqb}
use Rattle.std.proofs.lemmas.List.{get_or-take, get_or_append_left, get_or_default, take-append-le, take_more, take_all}
use Rattle.std.proofs.lemmas.List.{take-append-drop, get_or_past}
use Rattle.std.proofs.lemmas.List.Kept.{AllPairs-filter}
use Rattle.std.proofs.lemmas.List.Elements.{Contains-get_or, Contains-append_left, Contains-append_right}
use Rattle.std.proofs.lemmas.List.Elements.{Contains-append_cases}
use Rattle.std.proofs.lemmas.List.FromFn.{length-range_with_len}
use Rattle.std.proofs.lemmas.List.Filters.{length-filter_more}
use Rattle.std.proofs.lemmas.List.Sums.{length-filter, count_by-le-length}
use Rattle.cpg_base.specs.Numbers.{numbers_below}
use Rattle.cpg_base.specs.Graph.{Graph, process_count, edge_count, source, target, inputs, outputs}
use Rattle.cpg_base.proofs.Lists.{Contains-first, Contains-cases, Contains-nil, Contains-filter, Contains-filter_parts}
use Rattle.cpg_base.proofs.Lists.{Contains-numbers, numbers-Contains, any_below}
use Rattle.cpg_base.proofs.Pairs.{AllPairs-append, AllPairs-nil, AllPairs-cons_by, numbers_apart, length-le_of_apart}
use Rattle.cpg_base.proofs.Pairs.{permutation_of_same}
use Rattle.cpg_base.proofs.Inputs.{inputs_parts, outputs_parts}
use Rattle.cpg_order.specs.Reach.{is_in}
use Rattle.cpg_order.specs.Urgency.{IsTopological}
use Rattle.cpg_base.specs.Order.{place}
use Rattle.cpg_order.specs.Settling.{waits, AreReady, AreSettled, AreStuck}
use Rattle.cpg_order.proofs.Along.{is_in_from, from_is_in}
use Rattle.cpg_base.proofs.Places.{place-lt, get_or-place, comes_before_from}

-- ---- numbers below a bound, without repeats

-- there are at most n different numbers below n
pub length-le_below : (n : ℕ) (xs : List ℕ) → AllPairs (λ x y. x ≢ y) xs → ((x : ℕ) → Contains xs x → x < n) →
    length xs ≤ n
length-le_below n xs apart below =
    let not_more = length-le_of_apart xs (numbers_below n) apart (λ x within. Contains-numbers n x (below x within)) in
    omega (arith, length-range_with_len 0 n)

-- a number that isn't in a list of different ones can be put in front
apart_more : (x : ℕ) (xs : List ℕ) → AllPairs (λ x y. x ≢ y) xs → is_in xs x ≡ false → AllPairs (λ x y. x ≢ y) (x ∷ xs)
apart_more x xs apart out = AllPairs-cons_by (λ x y. x ≢ y) x xs
    (λ y within is_x. both_ways (is_in xs x) out (is_in_from xs x (subst (Contains xs) (sym is_x) within))) apart

-- if x and the numbers of a list are below n, the numbers of the list with x in front are too
below_more : (n x : ℕ) (xs : List ℕ) → x < n → ((y : ℕ) → Contains xs y → y < n) → (y : ℕ) → Contains (x ∷ xs) y → y < n
below_more n x xs x_below below y within = elim (Contains-cases x xs y within) [
  | inl is_x ↦ subst (λ z. z < n) is_x x_below
  | inr in_rest ↦ below y in_rest
]

-- a list of different numbers below n that lacks one number below n has fewer than n numbers
pub length-lt_below : (n x : ℕ) (xs : List ℕ) → AllPairs (λ x y. x ≢ y) xs → ((x : ℕ) → Contains xs x → x < n) → x < n →
    is_in xs x ≡ false → length xs < n
length-lt_below n x xs apart below x_below out =
    length-le_below n (x ∷ xs) (apart_more x xs apart out) (below_more n x xs x_below below)

-- if n different numbers are below n, each number below n is among them
pub has_all : (n : ℕ) (xs : List ℕ) → AllPairs (λ x y. x ≢ y) xs → ((x : ℕ) → Contains xs x → x < n) → n ≤ length xs →
    (x : ℕ) → x < n → Contains xs x
has_all n xs apart below long x x_below = elim (cases_Bool (is_in xs x)) [
  | inl listed ↦ from_is_in xs x listed
  | inr missing ↦ absurd (omega (arith, length-lt_below n x xs apart below x_below missing))
]

-- n different numbers below n are all of them
pub permutation_of_all : (n : ℕ) (xs : List ℕ) → AllPairs (λ x y. x ≢ y) xs → ((x : ℕ) → Contains xs x → x < n) →
    n ≤ length xs →
    IsPermutation (numbers_below n) xs
permutation_of_all n xs apart below long = permutation_of_same (numbers_below n) xs (numbers_apart n) apart
    (λ x within. has_all n xs apart below long x (numbers-Contains n x within))
    (λ x within. Contains-numbers n x (below x within))

-- ---- ready processes

-- no number of a list stands in it twice
abbrev Apart : List ℕ → Type 0
Apart xs = AllPairs (λ x y. x ≢ y) xs

-- At the start those processes are ready that wait for no input.
-- They are a filter of the numbers, which are all different.
pub ready_first : (waiting ready : List ℕ) →
    ready ≡ filter (λ p. get_or waiting p 0 == 0) (numbers_below (length waiting)) →
    AreReady waiting ready
ready_first waiting ready is = record {
  apart = rw is (AllPairs-filter (λ x y. x ≢ y) (λ p. get_or waiting p 0 == 0) (numbers_below (length waiting))
      (numbers_apart (length waiting)));
  free = λ p listed.
      let parts = Contains-filter_parts (λ p. get_or waiting p 0 == 0) (numbers_below (length waiting)) p
      (subst (λ xs. Contains xs p) is listed) in
      (numbers-Contains (length waiting) p parts.0, eqb-true (get_or waiting p 0) 0 parts.1);
  all = λ p inside waits_none. subst (λ xs. Contains xs p) (sym is)
      (Contains-filter (λ p. get_or waiting p 0 == 0) (numbers_below (length waiting)) p
      (eq-eqb (get_or waiting p 0) 0 waits_none) (Contains-numbers (length waiting) p inside));
}

-- given a process that waits, and the number of inputs for which it waits from now on
module _ (waiting ready : List ℕ) (are : AreReady waiting ready) (p left : ℕ) (waits_still : 0 < get_or waiting p 0)
    (inside : p < length waiting) where
  -- a ready process isn't the one that still waits
  other_than : (q : ℕ) → Contains ready q → q ≢ p
  other_than q is_ready is_p = let waits_none = (are.free q is_ready).1 in
      let same_count = ap (λ x. get_or waiting x 0) is_p in omega arith

  -- a process that was ready still waits for nothing
  kept_free : (q : ℕ) → Contains ready q → (q < length (set waiting p left)) × (get_or (set waiting p left) q 0 ≡ 0)
  kept_free q is_ready = let free = are.free q is_ready in (
    omega (arith, length-set waiting p left, free.0),
    get_or-set_other waiting p q left 0 (other_than q is_ready)
        ∙ free.1,
  )

  -- a process other than the one put in order, which waits for nothing after that, was ready before
  kept_all : (q : ℕ) → q ≢ p → q < length (set waiting p left) → get_or (set waiting p left) q 0 ≡ 0 → Contains ready q
  kept_all q is_other within waits_none =
      are.all q (omega (arith, length-set waiting p left))
      (sym (get_or-set_other waiting p q left 0 is_other) ∙ waits_none)

  -- While a process still waits for inputs, the same processes are ready.
  -- p wasn't ready and isn't now; for any other process nothing changed.
  pub ready_kept : left ≢ 0 → AreReady (set waiting p left) ready
  ready_kept some = record {
    apart = are.apart;
    free = kept_free;
    all = λ q within waits_none. elim (cases_eq q p) [
      | inl is ↦ absurd
          (some (sym (get_or-set_same waiting p left 0 inside)
          ∙ subst (λ x. get_or (set waiting p left) x 0 ≡ 0) is waits_none))
      | inr is_other ↦ kept_all q is_other within waits_none
    ];
  }

  -- A process that waits for no more inputs becomes ready.
  -- p is new among the ready ones, since it waited before; for any other process nothing changed.
  pub ready_more : left ≡ 0 → AreReady (set waiting p left) (ready ++ p ∷ [])
  ready_more none = record {
    apart = AllPairs-append (λ x y. x ≢ y) ready (p ∷ []) are.apart
        (AllPairs-cons_by (λ x y. x ≢ y) p []
        (λ y is_ready. absurd (Contains-nil y is_ready)) (AllPairs-nil (λ x y. x ≢ y)))
        (λ x y is_ready in_last. elim (Contains-cases p [] y in_last) [
          | inl is_p ↦ subst (λ z. x ≢ z) is_p (other_than x is_ready)
          | inr nothing ↦ absurd (Contains-nil y nothing)
        ]);
    free = λ q is_ready. elim (Contains-append_cases ready (p ∷ []) q is_ready) [
      | inl was_ready ↦ kept_free q was_ready
      | inr in_last ↦ elim (Contains-cases p [] q in_last) [
        | inl is_p ↦ subst (λ x. (x < length (set waiting p left)) × (get_or (set waiting p left) x 0 ≡ 0)) is_p
            (omega (arith, length-set waiting p left), get_or-set_same waiting p left 0 inside ∙ none)
        | inr nothing ↦ absurd (Contains-nil q nothing)
      ]
    ];
    all = λ q within waits_none. elim (cases_eq q p) [
      | inl is ↦ Contains-append_right ready (p ∷ []) q (subst (Contains (p ∷ [])) (sym is) (Contains-first p []))
      | inr is_other ↦ Contains-append_left ready (p ∷ []) q (kept_all q is_other within waits_none)
    ];
  }

-- ---- how many pass a test

-- how many numbers pass a test
abbrev pub passing : (ℕ → Bool) → List ℕ → ℕ
passing p xs = length (filter p xs)

-- one number more counts if it passes
passing_one : (p : ℕ → Bool) (x : ℕ) (xs : List ℕ) → passing p (x ∷ xs) ≡ cond (p x) 1 0 + passing p xs
passing_one p x xs = go (p x)
  where
    -- by whether the first number passes
    go : (b : Bool) → length (cond b (x ∷ filter p xs) (filter p xs)) ≡ cond b 1 0 + length (filter p xs)
    go true = omega arith
    go false = omega arith

-- a number that may be left out counts if it is there and passes
passing_if : (p : ℕ → Bool) (b : Bool) (x : ℕ) (xs : List ℕ) →
    passing p (cond b (x ∷ xs) xs) ≡ cond b (cond (p x) 1 0) 0 + passing p xs
passing_if p true x xs = passing_one p x xs
passing_if p false x xs = omega arith

-- as many numbers pass in xs and ys together as in each of them, added up
pub passing-append : (p : ℕ → Bool) (xs ys : List ℕ) → passing p (xs ++ ys) ≡ passing p xs + passing p ys
passing-append p [] ys = omega arith
passing-append p (x ∷ xs) ys = let rest = passing-append p xs ys in
    let with_both = passing_one p x (xs ++ ys) in
    let with_first = passing_one p x xs in
    omega arith

-- if no number of a list passes, each of them fails
pub none_passing : (p : ℕ → Bool) (xs : List ℕ) (x : ℕ) → passing p xs ≡ 0 → Contains xs x → p x ≡ false
none_passing p xs x none within = elim (cases_Bool (p x)) [
  | inl passes ↦ absurd (let kept = Contains-filter p xs x passes within in omega (arith, kept.1))
  | inr fails ↦ fails
]

-- if some of a list pass, there is one that does
pub some_passing : (p : ℕ → Bool) (xs : List ℕ) → 0 < passing p xs → (x : ℕ) × Contains xs x × (p x ≡ true)
some_passing p xs some = let first = get_or (filter p xs) 0 0 in
    let parts = Contains-filter_parts p xs first (Contains-get_or (filter p xs) 0 0 some) in
    (first, parts.0, parts.1)

-- if all pass, as many pass as there are
pub all_passing : (p : ℕ → Bool) (xs : List ℕ) → ((x : ℕ) → p x ≡ true) → passing p xs ≡ length xs
all_passing p [] all_pass = refl
all_passing p (x ∷ xs) all_pass = let rest = all_passing p xs all_pass in
    let with_first = passing_one p x xs in
    let counts_one : cond {A = ℕ} (p x) 1 0 ≡ 1 = ap {B = ℕ} (λ b. cond b 1 0) (all_pass x) in
    omega arith

-- One element is counted alike on both sides.
-- By whether the element passes the first test (tx), and whether it is the one that was settled (sx).
one_of : (tx sx ux vx : Bool) (a b c : ℕ) → (sx ≡ true → ux ≡ true) → (sx ≡ true → vx ≡ false) →
    (sx ≡ false → ux ≡ vx) → a ≡ b + c
    → cond tx (cond ux 1 0) 0 + a ≡ cond tx (cond vx 1 0) 0 + b + (cond sx (cond tx 1 0) 0 + c)
one_of true true ux vx a b c then_u then_not_v else_same sum_is =
    let u_counts : cond {A = ℕ} ux 1 0 ≡ 1 = ap {B = ℕ} (λ z. cond z 1 0) (then_u refl) in
    let v_counts : cond {A = ℕ} vx 1 0 ≡ 0 = ap {B = ℕ} (λ z. cond z 1 0) (then_not_v refl) in
    omega arith
one_of true false ux vx a b c then_u then_not_v else_same sum_is =
    let u_counts : cond {A = ℕ} ux 1 0 ≡ cond {A = ℕ} vx 1 0 = ap {B = ℕ} (λ z. cond z 1 0) (else_same refl) in
    omega arith
one_of false true ux vx a b c then_u then_not_v else_same sum_is = omega arith
one_of false false ux vx a b c then_u then_not_v else_same sum_is = omega arith

-- those that pass t and u are those that pass t and v, and those that pass s and t
pub passing_split : (t s u v : ℕ → Bool) (xs : List ℕ) → ((x : ℕ) → s x ≡ true → u x ≡ true) →
    ((x : ℕ) → s x ≡ true → v x ≡ false) →
    ((x : ℕ) → s x ≡ false → u x ≡ v x)
    → passing u (filter t xs) ≡ passing v (filter t xs) + passing t (filter s xs)
passing_split t s u v [] then_u then_not_v else_same = refl
passing_split t s u v (x ∷ xs) then_u then_not_v else_same =
    passing_if u (t x) x (filter t xs)
    ∙ one_of (t x) (s x) (u x) (v x) (passing u (filter t xs)) (passing v (filter t xs)) (passing t (filter s xs))
    (then_u x) (then_not_v x) (else_same x) (passing_split t s u v xs then_u then_not_v else_same)
    ∙ sym (let with_v = passing_if v (t x) x (filter t xs) in
    let with_t = passing_if t (s x) x (filter s xs) in omega arith)

-- ---- one more process is settled

-- what is in a list with one number more is in the list or is that number
is_in-push : (xs : List ℕ) (x y : ℕ) → is_in (xs ++ x ∷ []) y ≡ true → (is_in xs y ≡ true) ⊎ (x ≡ y)
is_in-push xs x y within = elim (Contains-append_cases xs (x ∷ []) y (from_is_in (xs ++ x ∷ []) y within)) [
  | inl where_in ↦ inl (is_in_from xs y where_in)
  | inr where_in ↦ elim (Contains-cases x [] y where_in) [
    | inl is_x ↦ inr is_x
    | inr nothing ↦ absurd (Contains-nil y nothing)
  ]
]

-- if each of two tests holds when the other does, their negations are equal
same_not : (a b : Bool) → (a ≡ true → b ≡ true) → (b ≡ true → a ≡ true) → not a ≡ not b
same_not true true there back = refl
same_not false false there back = refl
same_not true false there back = absurd (true≢false (sym (there refl)))
same_not false true there back = absurd (true≢false (sym (back refl)))

-- if the negation of b is true, b is false
not_true : (b : Bool) → not b ≡ true → b ≡ false
not_true true known = sym known
not_true false known = refl

-- if the negation of b is false, b is true
not_false : (b : Bool) → not b ≡ false → b ≡ true
not_false true known = refl
not_false false known = sym known

-- given: a process p that isn't settled yet
module _ (g : Graph) (settled : List ℕ) (p : ℕ) (fresh : is_in settled p ≡ false) where
  -- when p is settled, each process waits for fewer inputs: fewer by its edges from p
  pub waits_fewer : (q : ℕ) →
      waits g settled q ≡ waits g (settled ++ p ∷ []) q + passing (λ e. target g e == q) (outputs g p)
  waits_fewer q = passing_split (λ e. target g e == q) (λ e. source g e == p) (λ e. not (is_in settled (source g e)))
      (λ e. not (is_in (settled ++ p ∷ []) (source g e)))
      (numbers_below (edge_count g))
      (λ e from_p. ap (λ x. not (is_in settled x)) (eqb-true (source g e) p from_p) ∙ ap not fresh)
      (λ e from_p. ap (λ x. not (is_in (settled ++ p ∷ []) x)) (eqb-true (source g e) p from_p)
      ∙ ap not (is_in_from (settled ++ p ∷ []) p (Contains-append_right settled (p ∷ []) p (Contains-first p []))))
      (λ e not_from_p. same_not (is_in settled (source g e)) (is_in (settled ++ p ∷ []) (source g e))
      (λ before. is_in_from (settled ++ p ∷ []) (source g e)
      (Contains-append_left settled (p ∷ []) (source g e) (from_is_in settled (source g e) before)))
      (λ after. elim (is_in-push settled p (source g e) after) [
        | inl was_settled ↦ was_settled
        | inr is_p ↦ absurd (both_ways (source g e == p) not_from_p (eq-eqb (source g e) p (sym is_p)))
      ]))

-- a process that waits for no input has the sources of all its inputs among the settled processes
pub sources_settled : (g : Graph) (settled : List ℕ) (p : ℕ) → waits g settled p ≡ 0 → (e : ℕ) →
    Contains (inputs g p) e →
    Contains settled (source g e)
sources_settled g settled p none e is_input = elim (cases_Bool (is_in settled (source g e))) [
  | inl settled_too ↦ from_is_in settled (source g e) settled_too
  | inr not_settled ↦ absurd (both_ways _
      (none_passing (λ e. not (is_in settled (source g e))) (inputs g p) e none is_input) (ap not not_settled))
]

-- the first numbers of a list are among more of its first numbers
Contains-take : (xs : List ℕ) (i j x : ℕ) → i ≤ j → Contains (take i xs) x → Contains (take j xs) x
Contains-take xs i j x not_more within =
    let length_i = length-take i xs in
    let length_j = length-take j xs in (
      within.0,
      omega (arith, within.1),
      get_or-take j xs within.0 x (omega (arith, within.1))
          ∙ sym (get_or-take i xs within.0 x (omega (arith, within.1))) ∙ within.2,
    )

-- In a list of different numbers none occurs before its own place.
-- A number before the place would be equal to the one at it.
pub apart_before : (xs : List ℕ) (d : ℕ) → Apart xs → d < length xs → is_in (take d xs) (get_or xs d 0) ≡ false
apart_before xs d apart inside = elim (cases_Bool (is_in (take d xs) (get_or xs d 0))) [
  | inl found ↦
      let within = from_is_in (take d xs) (get_or xs d 0) found in
      let length_d = length-take d xs in
      absurd (apart within.0 d (get_or xs d 0) (omega (arith, within.1)) inside (sym
      (get_or-take d xs within.0 (get_or xs d 0) (omega (arith, within.1))) ∙ within.2
      ∙ get_or_default xs d 0 (get_or xs d 0) inside))
  | inr missing ↦ missing
]

-- given: for how many inputs each process of a graph waits
module _ (g : Graph) (waiting : List ℕ) where
  -- at the start no process is settled, and each waits for all its inputs
  pub settled_first : (ready : List ℕ) → length waiting ≡ process_count g →
      ((p : ℕ) → p < process_count g → get_or waiting p 0 ≡ length (inputs g p)) →
      AreReady waiting ready →
      AreSettled g 0 waiting ready
  settled_first ready long counts are =
      let none : (p : ℕ) → p < process_count g → get_or waiting p 0 ≡ waits g [] p =
      λ p within. counts p within ∙ sym (all_passing (λ e. true) (inputs g p) (λ x. refl)) in
      record {
        long = long;
        listed = are;
        within = omega arith;
        counts = none;
        after = λ k inside e is_input.
            let free = are.free (get_or ready k 0) (Contains-get_or ready k 0 inside) in
            absurd (Contains-nil (source g e) (sources_settled g [] (get_or ready k 0)
            (sym (none (get_or ready k 0) (subst (λ n. get_or ready k 0 < n) long free.0)) ∙ free.1) e is_input));
      }

  -- given that the first d processes are settled, and one more is ready
  module _ (d : ℕ) (ready : List ℕ) (are : AreSettled g d waiting ready) (more : d < length ready) where
    -- when the next process is settled, each process waits for fewer inputs, by its edges from this one
    fewer : (q : ℕ) →
        waits g (take d ready) q
        ≡ waits g (take (d + 1) ready) q + passing (λ e. target g e == q) (outputs g (get_or ready d 0))
    fewer q = waits_fewer g (take d ready) (get_or ready d 0) (apart_before ready d are.listed.apart more) q
        ∙ ap (λ xs. waits g xs q + passing (λ e. target g e == q) (outputs g (get_or ready d 0)))
        (sym (take_more ready d 0 more))

    -- No process has more inputs from the next settled process than it waits for.
    -- A process of the graph waits for at least these inputs, and no edge leads to any other number.
    pub enough : ((e : ℕ) → e < edge_count g → target g e < process_count g) → (q : ℕ) →
        passing (λ e. target g e == q) (outputs g (get_or ready d 0)) ≤ get_or waiting q 0
    enough ends q = elim (cases_lt q (process_count g)) [
      | inl within ↦ omega (arith, are.counts q within, fewer q)
      | inr within ↦ elim (cases_lt 0 (passing (λ e. target g e == q) (outputs g (get_or ready d 0)))) [
        | inl some ↦
            let found = some_passing (λ e. target g e == q) (outputs g (get_or ready d 0)) some in
            let target_below = ends found.0 (outputs_parts g (get_or ready d 0) found.0 found.1).0 in
            absurd (omega (arith, eqb-true (target g found.0) q found.2))
        | inr none ↦ omega arith
      ]
    ]

    -- one more process is settled when its outputs no longer count as waited for
    pub settled_more : (waiting' new rest : List ℕ) → new ≡ ready ++ rest → length waiting' ≡ length waiting →
        AreReady waiting' new
        → ((q : ℕ) → get_or waiting' q 0 + passing (λ e. target g e == q) (outputs g (get_or ready d 0))
        ≡ get_or waiting q 0) → AreSettled g (d + 1) waiting' new
    settled_more waiting' new rest is long listed left =
        let grown : length new ≡ length ready + length rest = ap length is ∙ length-append ready rest in
        -- what is in front stays, so each process still waits for as many
        let prefix : (k : ℕ) → k ≤ length ready → take k new ≡ take k ready =
        λ k within. ap (take k) is ∙ take-append-le k ready rest within in
        let counts : (q : ℕ) → q < process_count g → get_or waiting' q 0 ≡ waits g (take (d + 1) ready) q =
        λ q within. omega (arith, left q, are.counts q within, fewer q) in
        record {
          long = long ∙ are.long;
          listed = listed;
          within = omega arith;
          counts = λ q within. counts q within ∙ ap (λ xs. waits g xs q) (sym (prefix (d + 1) (omega arith)));
          -- a source of a process that is ready stands before it, whether the process was ready or is so anew
          after = λ k inside e is_input. elim (cases_lt k (length ready)) [
            | inl old ↦
                let same : get_or new k 0 ≡ get_or ready k 0 =
                ap (λ xs. get_or xs k 0) is ∙ get_or_append_left ready rest 0 k old in
                subst (λ xs. Contains xs (source g e)) (sym (prefix k (omega arith)))
                (are.after k old e (subst (λ q. Contains (inputs g q) e) same is_input))
            | inr fresh ↦
                let free = listed.free (get_or new k 0) (Contains-get_or new k 0 inside) in
                let none : waits g (take (d + 1) ready) (get_or new k 0) ≡ 0 =
                sym (counts (get_or new k 0) (subst (λ n. get_or new k 0 < n) (long ∙ are.long) free.0)) ∙ free.1 in
                Contains-take new (d + 1) k (source g e) (omega arith)
                (subst (λ xs. Contains xs (source g e)) (sym (prefix (d + 1) (omega arith)))
                (sources_settled g (take (d + 1) ready) (get_or new k 0) none e is_input))
          ];
        }

-- ---- at the end

-- given: all processes that are ready have been settled
module _ (g : Graph) (waiting ready : List ℕ) (are : AreSettled g (length ready) waiting ready) where
  -- a ready process is one of the graph
  ready_below : (p : ℕ) → Contains ready p → p < process_count g
  ready_below p is_ready = subst (λ n. p < n) are.long (are.listed.free p is_ready).0

  -- if as many processes are settled as there are, they are all processes, each once
  pub settled_all : process_count g ≤ length ready → IsPermutation (numbers_below (process_count g)) ready
  settled_all long = permutation_of_all (process_count g) ready are.listed.apart ready_below long

  -- If all processes are settled, they stand in a topological order.
  -- The target of each edge is among them, and its sources stand before it.
  pub settled_topological : ((e : ℕ) → e < edge_count g → target g e < process_count g) →
      process_count g ≤ length ready →
      IsTopological g ready
  settled_topological ends long = record {
    all = settled_all long;
    forward = λ e listed.
        let edge_below = numbers-Contains (edge_count g) e listed in
        let is_ready = has_all (process_count g) ready are.listed.apart ready_below long (target g e)
        (ends e edge_below) in
        let at_place = get_or-place ready (target g e) 0 is_ready in
        comes_before_from ready (source g e) (target g e)
        (are.after (place ready (target g e)) (place-lt ready (target g e) is_ready) e
        (subst (λ q. Contains (inputs g q) e) (sym at_place) (Contains-filter (λ f. target g f == target g e)
        (numbers_below (edge_count g)) e (eq-eqb (target g e) (target g e) refl) listed)));
  }

  -- with all ready processes put in order, `waiting` has what each process waits for beyond these
  waits_for : (p : ℕ) → p < process_count g → get_or waiting p 0 ≡ waits g ready p
  waits_for p within = are.counts p within ∙ ap (λ xs. waits g xs p) (take_all (length ready) ready (omega arith))

  -- a process that isn't ready waits for some input
  still_waits : (p : ℕ) → p < process_count g → is_in ready p ≡ false → 0 < get_or waiting p 0
  still_waits p within out = elim (cases_eq (get_or waiting p 0) 0) [
    | inl waits_none ↦ absurd
        (both_ways (is_in ready p) out
        (is_in_from ready p (are.listed.all p (subst (λ n. p < n) (sym are.long) within) waits_none)))
    | inr waits_some ↦ omega arith
  ]

  -- If some processes are left, each of them waits for another one of them.
  -- Not all are ready, so one is left; one that isn't ready waits for an input whose source isn't ready either.
  pub settled_stuck : ((e : ℕ) → e < edge_count g → source g e < process_count g) → length ready < process_count g →
      AreStuck g waiting
  settled_stuck ends short = record {
    long = are.long;
    some = elim (any_below (λ p. not (is_in ready p)) (process_count g)) [
      | inl left_out ↦ (
        left_out.0,
        left_out.1,
        still_waits left_out.0 left_out.1
            (not_true (is_in ready left_out.0) left_out.2),
      )
      | inr none ↦
          absurd (let not_more = length-le_of_apart (numbers_below (process_count g)) ready
          (numbers_apart (process_count g))
          (λ x within. from_is_in ready x
          (not_false (is_in ready x) (none x (numbers-Contains (process_count g) x within)))) in
          omega (arith, length-range_with_len 0 (process_count g)))
    ];
    each = λ p within some.
        let waited_for = some_passing
        (λ e. not (is_in ready (source g e))) (inputs g p) (omega (arith, waits_for p within)) in (
          waited_for.0,
          waited_for.1,
          still_waits (source g waited_for.0) (ends waited_for.0 (inputs_parts g p waited_for.0 waited_for.1).0)
              (not_true (is_in ready (source g waited_for.0)) waited_for.2),
        );
  }

-- a process has no more inputs than there are edges
pub inputs-le : (g : Graph) (p : ℕ) → length (inputs g p) ≤ edge_count g
inputs-le g p = omega (
  arith,
  length-filter (λ e. target g e == p) (numbers_below (edge_count g)),
  count_by-le-length (λ e. target g e == p) (numbers_below (edge_count g)),
  length-range_with_len 0 (edge_count g),
)

-- ---- one edge after another is settled

-- of the first i numbers of xs no more pass than of all
passing-take-le : (p : ℕ → Bool) (xs : List ℕ) (i : ℕ) → passing p (take i xs) ≤ passing p xs
passing-take-le p xs i =
    let same_count : passing p xs ≡ passing p (take i xs ++ drop i xs) = ap (passing p) (sym (take-append-drop i xs)) in
    omega (arith, passing-append p (take i xs) (drop i xs))

-- before a place i whose number passes, fewer numbers pass than in all of xs
pub passing_next : (p : ℕ → Bool) (xs : List ℕ) (i : ℕ) → i < length xs → p (get_or xs i 0) ≡ true →
    passing p (take i xs) + 1 ≤ passing p xs
passing_next p xs i inside passes =
    let one : cond {A = ℕ} (p (get_or xs i 0)) 1 0 ≡ 1 = ap {B = ℕ} (λ b. cond b 1 0) passes in
    omega (arith, passing-take-le p xs (i + 1), length-filter_more p xs i 0 inside)

-- a process that waits for some input has a place in the list `waiting`
pub within_waiting : (waiting : List ℕ) (p : ℕ) → 0 < get_or waiting p 0 → p < length waiting
within_waiting waiting p some =
    elim (cases_lt p (length waiting)) [
      | inl inside ↦ inside
      | inr past ↦ absurd (omega (arith, get_or_past waiting p 0 past))
    ]

-- After one more edge its target waits for one input less, and the sums with the edges done stay the same.
-- p is the target, of which one edge more is done and one input less is left, or another process, of which nothing changes.
pub left_next : (f : ℕ → ℕ) (xs waiting next : List ℕ) (old : ℕ → ℕ) (i t : ℕ) → i < length xs → t ≡ f (get_or xs i 0) →
    0 < get_or waiting t 0 →
    next ≡ set waiting t (get_or waiting t 0 - 1)
    → ((p : ℕ) → get_or waiting p 0 + passing (λ e. f e == p) (take i xs) ≡ old p) → (p : ℕ) →
    get_or next p 0 + passing (λ e. f e == p) (take (i + 1) xs) ≡ old p
left_next f xs waiting next old i t inside target_is some is left p =
    let more = length-filter_more (λ e. f e == p) xs i 0 inside in
    elim (cases_eq p t) [
      | inl is_t ↦
          let one : cond {A = ℕ} (f (get_or xs i 0) == p) 1 0 ≡ 1 =
          ap {B = ℕ} (λ b. cond b 1 0) (eq-eqb (f (get_or xs i 0)) p (sym (is_t ∙ target_is))) in
          let same : get_or next t 0 ≡ get_or waiting t 0 - 1 = ap (λ w. get_or w t 0) is
          ∙ get_or-set_same waiting t (get_or waiting t 0 - 1) 0 (within_waiting waiting t some) in
          let here : get_or next p 0 ≡ get_or next t 0 = ap (λ x. get_or next x 0) is_t in
          let there : get_or waiting p 0 ≡ get_or waiting t 0 = ap (λ x. get_or waiting x 0) is_t in
          omega (arith, left p)
      | inr is_other ↦
          let none : cond {A = ℕ} (f (get_or xs i 0) == p) 1 0 ≡ 0 =
          ap {B = ℕ} (λ b. cond b 1 0) (ne_eqb (f (get_or xs i 0)) p
          (λ same_target. is_other (sym (target_is ∙ same_target)))) in
          let same : get_or next p 0 ≡ get_or waiting p 0 =
          ap (λ w. get_or w p 0) is ∙ get_or-set_other waiting t p (get_or waiting t 0 - 1) 0 is_other in
          omega (arith, left p)
    ]

-- no more processes are ready than there are
pub ready-le : (g : Graph) (waiting ready : List ℕ) (d : ℕ) → AreSettled g d waiting ready →
    length ready ≤ process_count g
ready-le g waiting ready d are = length-le_below (process_count g) ready are.listed.apart
    (λ p is_ready. subst (λ n. p < n) are.long (are.listed.free p is_ready).0)

-- each ready process is a process of the graph
pub ready_within : (g : Graph) (waiting ready : List ℕ) (d k : ℕ) → AreSettled g d waiting ready → k < length ready →
    get_or ready k 0 < process_count g
ready_within g waiting ready d k are inside =
    subst (λ n. get_or ready k 0 < n) are.long (are.listed.free (get_or ready k 0) (Contains-get_or ready k 0 inside)).0
