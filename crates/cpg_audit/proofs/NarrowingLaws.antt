-- A space narrowed by cubes: the range that a literal leaves of a variable, the loops that take cubes off the space one
-- by one, and the cube of all ranges that are left.
use Rattle.std.proofs.Common.{ℕ, zero, suc, refl, ◌||◌, ◌∷◌, ◌++◌, ◌+◌, ◌-◌, ◌<◌, ◌≤◌, ◌≡◌, true, false, not, ◌&&◌}
use Rattle.std.proofs.Common.{List, [], length, get_or, take, drop, map, All, Bor, Bool, arith, sym, ap, ◌∙◌}
use Rattle.std.proofs.Common.{subst, inl, inr, Option, Some, None}
use Rattle.std.specs.Prelude.{IfNone, IfSome, IsPermutation}
use Rattle.std.specs.List.{flat_map, list_any}
use Rattle.std.proofs.Math.Bool.{and-true, and-false, or-false}
use Rattle.std.proofs.lemmas.Bool.{cases_lt, cases_Bool, both_ways, or_parts}
use Rattle.std.proofs.lemmas.List.{append-nil, at_drop_more, map-append, take_more}
use Rattle.std.proofs.lemmas.List.Concat.{flat_map-append, flat_map-cons}
use Rattle.std.proofs.lemmas.List.Elements.{All-contains, All-weaker}
use Rattle.std.proofs.lemmas.List.Folds.{list_all_more, list_any-append}
use Rattle.std.proofs.lemmas.List.Sorted.{list_any-IsPermutation}
use Rattle.cpg_base.specs.Graph.{Graph, IsVariable}
use Rattle.cpg_base.proofs.Lists.{all_from}
use Rattle.cpg_base.specs.Scenario.{Scenario, number_of}
use Rattle.cpg_cover.specs.Cover.{is_left}
use Rattle.cpg_cube.specs.Cube.{holds, matches}
use Rattle.cpg_cube.specs.Fit.{IsKnown}
use Rattle.cpg_cube.specs.declared.literal.Literal.{Literal}
use Rattle.cpg_cube.proofs.CubeLows.{holds-from}
use Rattle.cpg_cube.proofs.Mapped.{any_map}
use Rattle.cpg_tree.specs.Space.{IsInSpace}
use Rattle.cpg_tree.specs.declared.space.Space.{Space}
use Rattle.cpg_audit.specs.Narrowing.{IsRange}

-- ---- where a literal doesn't hold

-- given a scenario in which a literal doesn't hold
module _ (s : Scenario) (l : Literal) (off : holds s l ≡ false) where
  -- if the number of the literal's variable isn't below the literal's range, it is above it, up to `most`
  pub above_range : (most : ℕ) → l.low ≤ number_of s l.variable → number_of s l.variable ≤ most →
      holds s (record { variable = l.variable; low = l.high + 1; high = most }) ≡ true
  above_range most low_enough at_most = elim (cases_lt l.high (number_of s l.variable)) [
    | inl above ↦ let upper : Literal = record { variable = l.variable; low = l.high + 1; high = most } in
        holds-from s upper (omega (arith, above)) at_most
    | inr within ↦ absurd (both_ways (holds s l) off (holds-from s l low_enough within))
  ]

  -- if the number of the literal's variable isn't above the literal's range, it is below it, from `least` on
  pub below_range : (least : ℕ) → least ≤ number_of s l.variable → number_of s l.variable ≤ l.high →
      holds s (record { variable = l.variable; low = least; high = l.low - 1 }) ≡ true
  below_range least at_least high_enough = elim (cases_lt (number_of s l.variable) l.low) [
    | inl below ↦ let lower : Literal = record { variable = l.variable; low = least; high = l.low - 1 } in
        holds-from s lower at_least (omega (arith, below))
    | inr within ↦ absurd (both_ways (holds s l) off (holds-from s l within high_enough))
  ]

-- ---- one cube more, from the last

-- something of a list passes from a place on, or the element before it does, just if something passes from the place
-- before on; `held` is whether something passed already
pub before_place : {X : Type 0} (f : X → Bool) (xs : List X) (place : ℕ) (x : X) (held : Bool) → 0 < place →
    place ≤ length xs →
    x ≡ get_or xs (place - 1) x →
    ((held || list_any f (drop place xs)) || f x) ≡ (held || list_any f (drop (place - 1) xs))
before_place f xs place x held some within is =
    let more = at_drop_more (list_any f) xs (place - 1) x (omega (arith, some, within)) in
    let next : place - 1 + 1 ≡ place = omega (arith, some) in
    turn held (list_any f (drop place xs)) (f x) ∙ ap (λ b. held || (b || list_any f (drop place xs))) (ap f is) ∙
    ap (λ k. held || (f (get_or xs (place - 1) x) || list_any f (drop k xs))) (sym next)
    ∙ ap (λ b. held || b) (sym more)
  where
    -- of three tests joined by `or` the last two may change places
    turn : (a b c : Bool) → ((a || b) || c) ≡ (a || (c || b))
    turn true b c = refl
    turn false true true = refl
    turn false true false = refl
    turn false false true = refl
    turn false false false = refl

-- if no element of `xs` from the place before on passes `f`, none from the place on does, nor does `x`, the element
-- before it
pub one_before : {X : Type 0} (f : X → Bool) (xs : List X) (place : ℕ) (x : X) → 0 < place → place ≤ length xs →
    x ≡ get_or xs (place - 1) x →
    list_any f (drop (place - 1) xs) ≡ false →
    (list_any f (drop place xs) ≡ false) × (f x ≡ false)
one_before f xs place x some within is off =
    let more = at_drop_more (list_any f) xs (place - 1) x (omega (arith, some, within)) in
    let next : place - 1 + 1 ≡ place = omega (arith, some) in
    let parts = or_parts (f (get_or xs (place - 1) x)) (list_any f (drop (place - 1 + 1) xs)) (sym more ∙ off) in
    (subst (λ k. list_any f (drop k xs) ≡ false) next parts.1, ap f is ∙ parts.0)

-- ---- the cubes of one place on

-- if no element passes, none of the first `n` does
any_taken : {X : Type 0} (f : X → Bool) (n : ℕ) (xs : List X) → list_any f xs ≡ false → list_any f (take n xs) ≡ false
any_taken f zero xs off = refl
any_taken f (suc n) [] off = off
any_taken f (suc n) (x ∷ xs) off = let parts = or_parts (f x) (list_any f xs) off in
    ap (λ b. b || list_any f (take n xs)) parts.0 ∙ any_taken f n xs parts.1

-- if no element passes, none from place `n` on does
any_dropped : {X : Type 0} (f : X → Bool) (n : ℕ) (xs : List X) → list_any f xs ≡ false → list_any f (drop n xs) ≡ false
any_dropped f zero xs off = off
any_dropped f (suc n) [] off = off
any_dropped f (suc n) (x ∷ xs) off = any_dropped f n xs (or_parts (f x) (list_any f xs) off).1

-- if no element passes, none of `m` from place `n` on does
pub any_within : {X : Type 0} (f : X → Bool) (n m : ℕ) (xs : List X) → list_any f xs ≡ false →
    list_any f (take m (drop n xs)) ≡ false
any_within f n m xs off = any_taken f m (drop n xs) (any_dropped f n xs off)

-- ---- a list of cubes that one more is added to, or isn't

-- given cubes that are kept, the next one, and a scenario
module _ (kept : List (Bor (List Literal))) (cube : Bor (List Literal)) (s : Scenario) where
  -- whether one of these cubes matches the scenario
  abbrev matched : List (Bor (List Literal)) → Bool
  matched bs = list_any (λ (b : Bor (List Literal)). matches b.now s) bs

  -- with the cube added, one of the kept matches just if one did or the new one does
  pub pushed : matched (kept ++ cube ∷ []) ≡ (matched kept || matches cube.now s)
  pushed = list_any-append (λ (b : Bor (List Literal)). matches b.now s) kept (cube ∷ [])
      ∙ ap (λ b. matched kept || b) (or-false (matches cube.now s))

  -- without the cube, one of the kept matches just if one of them or the cube does, if the cube doesn't match where none of
  -- them does
  pub passed : (matched kept ≡ false → matches cube.now s ≡ false) → matched kept ≡ (matched kept || matches cube.now s)
  passed h = elim (cases_Bool (matched kept)) [
    | inl on ↦ on ∙ sym (ap (λ b. b || matches cube.now s) on)
    | inr off ↦ off ∙ sym (ap (λ b. b || matches cube.now s) off ∙ h off)
  ]

-- ---- the cubes of all items, one by one and in another order

-- something in a flat map passes just if something in the list of some element does; by induction on `xs`
any_flat : {X Y : Type 0} (p : Y → Bool) (f : X → List Y) (xs : List X) →
    list_any p (flat_map f xs) ≡ list_any (λ x. list_any p (f x)) xs
any_flat p f [] = refl
any_flat p f (x ∷ xs) = ap (list_any p) (flat_map-cons f x xs) ∙ list_any-append p (f x) (flat_map f xs)
    ∙ ap (λ b. list_any p (f x) || b) (any_flat p f xs)

-- if `ys` are the elements of `xs` in another order, some element of their lists by `f` passes `p` exactly if one does
-- for `xs`
pub any_in_order : {X Y : Type 0} (p : Y → Bool) (f : X → List Y) (xs ys : List X) → IsPermutation xs ys →
    list_any p (flat_map f ys) ≡ list_any p (flat_map f xs)
any_in_order p f xs ys perm =
    any_flat p f ys ∙ sym (list_any-IsPermutation (λ x. list_any p (f x)) xs ys perm) ∙ sym (any_flat p f xs)

-- the lists by `f` of one element more of what `g` makes of `xs` have at their end the list of that element, the one at
-- place `i`
pub flat_more : {X Y Z : Type 0} (f : Y → List Z) (g : X → Y) (xs : List X) (i : ℕ) (d : X) → i < length xs →
    flat_map f (map g (take (i + 1) xs)) ≡ flat_map f (map g (take i xs)) ++ f (g (get_or xs i d))
flat_more f g xs i d within =
    ap (λ ys. flat_map f (map g ys)) (take_more xs i d within)
    ∙ ap (flat_map f) (map-append g (take i xs) (get_or xs i d ∷ []))
    ∙ flat_map-append f (map g (take i xs)) (g (get_or xs i d) ∷ [])
    ∙ ap (λ ys. flat_map f (map g (take i xs)) ++ ys) (append-nil (f (g (get_or xs i d))))

-- ---- one literal more

-- given a space, and the literal at place `i` of a cube; `o` is the one of the first `i` literals that may not hold in the
-- whole space, if there is one
module _ (space : Space) (ls : List Literal) (i : ℕ) (d : Literal) (within : i < length ls) where
  -- given that this literal holds in the whole space
  module _ (told : (s : Scenario) → IsInSpace space s → holds s (get_or ls i d) ≡ true) where
    -- in the space, the first `i + 1` literals match just where the first `i` do
    same_with_told : (s : Scenario) → IsInSpace space s → matches (take (i + 1) ls) s ≡ matches (take i ls) s
    same_with_told s lies = list_all_more (holds s) ls i d within ∙ ap (λ b. matches (take i ls) s && b) (told s lies)
        ∙ and-true (matches (take i ls) s)

    -- if there is no `o`, so that the first `i` match everywhere in the space, the first `i + 1` do
    pub none_with_told : (o : Option Literal) →
        IfNone o ((s : Scenario) → IsInSpace space s → matches (take i ls) s ≡ true)
        → IfNone o ((s : Scenario) → IsInSpace space s → matches (take (i + 1) ls) s ≡ true)
    none_with_told None if_none = λ s lies. same_with_told s lies ∙ if_none s lies
    none_with_told (Some l) if_none = tt

    -- if there is an `o`, and the first `i` match in the space just where it holds, so do the first `i + 1`
    pub some_with_told : (o : Option Literal) →
        IfSome o (λ l. (s : Scenario) → IsInSpace space s → matches (take i ls) s ≡ holds s l) →
        IfSome o (λ l. (s : Scenario) → IsInSpace space s → matches (take (i + 1) ls) s ≡ holds s l)
    some_with_told None if_some = tt
    some_with_told (Some l) if_some = λ s lies. same_with_told s lies ∙ if_some s lies

  -- if there is no `o`, the first `i + 1` match in the space just where the literal at place `i` holds
  pub first_open : (o : Option Literal) → o ≡ None →
      IfNone o ((s : Scenario) → IsInSpace space s → matches (take i ls) s ≡ true) → (s : Scenario) →
      IsInSpace space s →
      matches (take (i + 1) ls) s ≡ holds s (get_or ls i d)
  first_open o is if_none s lies =
      let none : (s : Scenario) → IsInSpace space s → matches (take i ls) s ≡ true = subst
      (λ (x : Option Literal). IfNone x ((s : Scenario) → IsInSpace space s →
      matches (take i ls) s ≡ true)) is if_none in
      list_all_more (holds s) ls i d within ∙ ap (λ b. b && holds s (get_or ls i d)) (none s lies)

-- ---- the cube of a space

-- given a space of the graph's scenarios
module _ (g : Graph) (space : Space) where
  -- if `cube` has only ranges of the space on variables below `m`, they are such below `n` too, which is not less
  pub ranges_weaker : (m n : ℕ) → m ≤ n → (cube : List Literal) → All (IsRange g space m) cube →
      All (IsRange g space n) cube
  ranges_weaker m n at_most cube all = All-weaker (IsRange g space m) (IsRange g space n)
      (λ l r. record { known = r.known; below = omega (arith, r.below); told = r.told }) cube all

  -- if `cube` has only ranges of the space, on variables below `n`, it matches each scenario `s` in the space
  pub matches_space : (n : ℕ) (cube : List Literal) → All (IsRange g space n) cube → (s : Scenario) →
      IsInSpace space s →
      matches cube s ≡ true
  matches_space n cube all s lies = all_from (holds s) cube
      (λ l there. let range : IsRange g space n l = All-contains (IsRange g space n) cube l all
      there in range.told s lies)

  -- a cube of ranges of a space is on variables of the graph
  pub known_ranges : (n : ℕ) (cube : List Literal) → All (IsRange g space n) cube → IsKnown g cube
  known_ranges n cube all =
      All-weaker (IsRange g space n) (λ (l : Literal). IsVariable g l.variable) (λ l r. r.known) cube all

-- given the kept ones of all cubes; `by`, the cubes that are taken off, which are the kept ones and then the idle ones; the
-- cube of what the kept ones leave of all scenarios; and a scenario
module _ (kept by : List (Bor (List Literal))) (idle all : List (List Literal)) (cube : List Literal)
    (s : Scenario) where
  -- the cube that a reference is to
  abbrev seen : Bor (List Literal) → List Literal
  seen b = b.now

  -- whether a cube matches the scenario
  abbrev test : List Literal → Bool
  test b = matches b s

  -- `by` leaves the scenario of the cube just if all cubes and the idle ones leave it of all scenarios, if the kept
  -- ones match it just if one of all does, and the cube matches it unless a kept one does. If something in `by` matches
  -- it, both sides are false; otherwise no kept one does, so the cube matches it, and both sides are true
  pub left_of_whole : map seen by ≡ map seen kept ++ idle →
      list_any (λ (b : Bor (List Literal)). matches b.now s) kept ≡ list_any test all
      → (list_any (λ (b : Bor (List Literal)). matches b.now s) kept ≡ false → matches cube s ≡ true) →
      is_left (map seen by) cube s ≡ is_left (all ++ idle) [] s
  left_of_whole added alike within =
      let parts : list_any test (map seen by)
      ≡ (list_any (λ (b : Bor (List Literal)). matches b.now s) kept || list_any test idle) =
      ap (list_any test) added ∙
      list_any-append test (map seen kept) idle ∙ ap (λ b. b || list_any test idle) (any_map test seen kept) in
      let same : list_any test (map seen by) ≡ list_any test (all ++ idle) =
      parts ∙ ap (λ b. b || list_any test idle) alike ∙ sym (list_any-append test all idle) in
      elim (cases_Bool (list_any test (map seen by))) [
        | inl on ↦ ap (λ x. matches cube s && not x) on ∙ and-false (matches cube s) ∙ sym (ap not (sym same ∙ on))
        | inr off ↦
            let none = (or_parts (list_any (λ (b : Bor (List Literal)). matches b.now s) kept) (list_any test idle)
            (sym parts ∙ off)).0 in
            ap (λ m. m && not (list_any test (map seen by))) (within none) ∙ ap not same
      ]
