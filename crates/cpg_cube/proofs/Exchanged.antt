-- A narrowing's literal is exchanged for another one on its variable.
use Rattle.std.proofs.Common.{ℕ, zero, suc, ◌<◌, ◌≤◌, ◌≡◌, ◌≢◌, true, false, List, [], ◌∷◌, Option, Some, None, length}
use Rattle.std.proofs.Common.{get_or, Contains, arith, refl, sym, ap, ◌∙◌, subst, eq-eqb, ne_eqb, length-set}
use Rattle.std.proofs.Common.{le-leb}
use Rattle.std.specs.Prelude.{IfSome, nat_le, slice_set, remove}
use Rattle.std.proofs.lemmas.Bool.{cond-true, cond-false, lt-leb}
use Rattle.cpg_base.proofs.Lists.{Contains-first, Contains-rest}
use Rattle.cpg_base.proofs.Pairs.{AllPairs-first, AllPairs-rest}
use Rattle.cpg_cube.specs.declared.cube.Narrowing.{Narrowing}
use Rattle.cpg_cube.specs.Cube.{Literal, IsRising}
use Rattle.cpg_cube.specs.Narrow.{meet_literal, narrowed_by, range_left, with_literal}
use Rattle.cpg_cube.specs.Undo.{IsOn, IsUndo, left_of, restored_at, restored}
use Rattle.cpg_cube.proofs.Narrow.{narrowed-before, narrowed-here, narrowed-after, rising-narrowed}

-- literal a is on a lower variable than literal b
abbrev Lower : Literal → Literal → Type 0
Lower a b = a.variable < b.variable

-- given: the literal l by which a cube is narrowed
module _ (l : Literal) where
  -- a literal on another variable leaves l its range
  after : (m : Literal) (ms : List Literal) → l.variable ≢ m.variable → range_left l (m ∷ ms) ≡ range_left l ms
  after m ms other = cond-false _ _ _ (ne_eqb l.variable m.variable other)

  -- literals on variables above leave l its range
  range_other : (ms : List Literal) → ((y : Literal) → Contains ms y → l.variable < y.variable) → range_left l ms ≡ l
  range_other [] all_above = refl
  range_other (m ∷ ms) all_above = after m ms (λ equal. let above = all_above m (Contains-first m ms) in omega arith)
      ∙ range_other ms (λ y member. all_above y (Contains-rest m ms y member))

  -- a literal on a variable below all others is put first
  put_first : (ms : List Literal) → ((y : Literal) → Contains ms y → l.variable < y.variable) →
      narrowed_by l ms ≡ l ∷ ms
  put_first [] all_above = refl
  put_first (m ∷ ms) all_above = narrowed-before l m ms (all_above m (Contains-first m ms))

  -- ---- no literal was on the variable

  -- without its literal on the variable of l, a cube leaves l its own range
  range_removed : (cube : List Literal) (i : ℕ) (d : Literal) → IsRising cube → i < length cube →
      (get_or cube i d).variable ≡ l.variable →
      range_left l (remove cube i) ≡ l
  -- by induction on the literals
  range_removed [] i d rises inside on_l = absurd (omega (arith, inside))
  range_removed (m ∷ ms) zero d rises inside on_l =
      range_other ms (λ y member. let above = AllPairs-first Lower m ms rises y member in omega (arith, above, on_l))
  range_removed (m ∷ ms) (suc i) d rises inside on_l =
      let below = rises 0 (suc i) d (omega arith) inside in
      after m (remove ms i) (λ equal. omega (arith, equal, below, on_l))
      ∙ range_removed ms i d (AllPairs-rest Lower m ms rises) (omega (arith, inside)) on_l

  -- a cube without its literal at place i, narrowed by a literal l on the same variable, has l at that place
  put_removed : (cube : List Literal) (i : ℕ) (d : Literal) → IsRising cube → i < length cube →
      (get_or cube i d).variable ≡ l.variable →
      narrowed_by l (remove cube i) ≡ slice_set cube i l
  -- by induction on the literals
  put_removed [] i d rises inside on_l = absurd (omega (arith, inside))
  put_removed (m ∷ ms) zero d rises inside on_l =
      put_first ms (λ y member. let above = AllPairs-first Lower m ms rises y member in omega (arith, above, on_l))
  put_removed (m ∷ ms) (suc i) d rises inside on_l =
      let below = rises 0 (suc i) d (omega arith) inside in
      narrowed-after l m (remove ms i) (omega (arith, below, on_l))
      ∙ ap (λ ns. m ∷ ns) (put_removed ms i d (AllPairs-rest Lower m ms rises) (omega (arith, inside)) on_l)

  -- ---- a literal was on the variable

  -- given: a literal `was` on the variable of l
  module _ (was : Literal) (same : was.variable ≡ l.variable) where
    -- with `was` on the variable of l, what l leaves is what the two have in common
    range_set : (cube : List Literal) (i : ℕ) (d : Literal) → IsRising cube → i < length cube →
        (get_or cube i d).variable ≡ l.variable →
        range_left l (slice_set cube i was) ≡ meet_literal l was
    -- by induction on the literals
    range_set [] i d rises inside on_l = absurd (omega (arith, inside))
    range_set (m ∷ ms) zero d rises inside on_l = cond-true _ _ _ (eq-eqb l.variable was.variable (sym same))
    range_set (m ∷ ms) (suc i) d rises inside on_l =
        let below = rises 0 (suc i) d (omega arith) inside in
        after m (slice_set ms i was) (λ equal. omega (arith, equal, below, on_l))
        ∙ range_set ms i d (AllPairs-rest Lower m ms rises) (omega (arith, inside)) on_l

    -- a cube with `was` at place i, narrowed by l on the same variable, has the meeting of the two at that place
    put_set : (cube : List Literal) (i : ℕ) (d : Literal) → IsRising cube → i < length cube →
        (get_or cube i d).variable ≡ l.variable →
        narrowed_by l (slice_set cube i was) ≡ slice_set cube i (meet_literal l was)
    -- by induction on the literals
    put_set [] i d rises inside on_l = absurd (omega (arith, inside))
    put_set (m ∷ ms) zero d rises inside on_l = narrowed-here l was ms (sym same)
    put_set (m ∷ ms) (suc i) d rises inside on_l =
        let below = rises 0 (suc i) d (omega arith) inside in
        narrowed-after l m (slice_set ms i was) (omega (arith, below, on_l))
        ∙ ap (λ ns. m ∷ ns) (put_set ms i d (AllPairs-rest Lower m ms rises) (omega (arith, inside)) on_l)

-- ---- whether or not a literal was on the variable

-- a literal to give `get_or` as what it answers past the end
blank : Literal
blank = record { variable = 0; low = 0; high = 0 }

-- given: a place of a rising cube, whose literal is on the variable of l
module _ (l : Literal) (cube : List Literal) (rises : IsRising cube) (place : ℕ) (inside : place < length cube)
    (on_l : (get_or cube place blank).variable ≡ l.variable) where
  -- the cube as it was leaves l the range that l and the literal from before have in common, or l's own if there was
  -- none
  range_at : (was : Option Literal) → IfSome was (λ w. w.variable ≡ l.variable) →
      range_left l (restored_at place was cube) ≡ left_of l was
  range_at None was_on = range_removed l cube place blank rises inside on_l
  range_at (Some was) was_on = range_set l was was_on cube place blank rises inside on_l

  -- the cube as it was, narrowed by l, is the cube with that range at the place
  put_at : (was : Option Literal) → IfSome was (λ w. w.variable ≡ l.variable) →
      narrowed_by l (restored_at place was cube) ≡ slice_set cube place (left_of l was)
  put_at None was_on = put_removed l cube place blank rises inside on_l
  put_at (Some was) was_on = put_set l was was_on cube place blank rises inside on_l

-- of two literals set at one place the second stays
set_twice : (x y : Literal) (xs : List Literal) (i : ℕ) → slice_set (slice_set xs i x) i y ≡ slice_set xs i y
set_twice x y [] i = refl
set_twice x y (m ∷ ms) zero = refl
set_twice x y (m ∷ ms) (suc i) = ap (λ zs. m ∷ zs) (set_twice x y ms i)

-- what is set at a place goes if the place is removed
set_removed : (x : Literal) (xs : List Literal) (i : ℕ) → remove (slice_set xs i x) i ≡ remove xs i
set_removed x [] i = refl
set_removed x (m ∷ ms) zero = refl
set_removed x (m ∷ ms) (suc i) = ap (λ zs. m ∷ zs) (set_removed x ms i)

-- a literal set at the place is gone once the cube is as it was
back_at : (x : Literal) (cube : List Literal) (place : ℕ) (was : Option Literal) →
    restored_at place was (slice_set cube place x) ≡ restored_at place was cube
back_at x cube place None = set_removed x cube place
back_at x cube place (Some was) = set_twice x was cube place

-- given: a narrowing of a rising cube on the variable of l, and the range that the exchange leaves
module _ (l : Literal) (cube : List Literal) (rises : IsRising cube) (n : Narrowing) (inside : n.place < length cube)
    (is : IsOn l.variable n cube) (left : Literal) (left_is : left ≡ left_of l n.was) where
  -- the range that the cube as it was leaves the literal
  range_exchanged : range_left l (restored n cube) ≡ left
  range_exchanged = range_at l cube rises n.place inside (is.there blank) n.was is.was ∙ sym left_is

  -- narrowing the cube as it was by the literal is setting what is left at the place
  pub put_exchanged : narrowed_by l (restored n cube) ≡ slice_set cube n.place left
  put_exchanged = put_at l cube rises n.place inside (is.there blank) n.was is.was
      ∙ ap (slice_set cube n.place) (sym left_is)

  -- if the low that is left is above the high, the cube as it was can't be narrowed by the literal
  pub none_exchanged : left.high < left.low → with_literal l (restored n cube) ≡ None
  none_exchanged empty =
      let none : nat_le (range_left l (restored n cube)).low (range_left l (restored n cube)).high ≡ false =
      rw range_exchanged (lt-leb left.low left.high empty) in
      cond-false _ _ _ none

  -- if the low left is at most the high, the cube as it was, with l, is the cube with what is left at the place
  pub some_exchanged : left.low ≤ left.high → with_literal l (restored n cube) ≡ Some (slice_set cube n.place left)
  some_exchanged met =
      let some : nat_le (range_left l (restored n cube)).low (range_left l (restored n cube)).high ≡ true =
      rw range_exchanged (le-leb left.low left.high met) in
      cond-true _ _ _ some ∙ ap Some put_exchanged

  -- the cube with what is left at the place rises if the cube as it was does
  pub rising_exchanged : IsRising (restored n cube) → IsRising (slice_set cube n.place left)
  rising_exchanged was = subst IsRising put_exchanged (rising-narrowed l (restored n cube) was)

  -- the same narrowing leads back from the exchanged cube to the cube as it was
  pub undo_exchanged : (new : List Literal) → new ≡ slice_set cube n.place left → IsUndo n new (restored n cube)
  undo_exchanged new same = record {
    place = rw same (omega (arith, inside, length-set cube n.place left));
    back = rw same (back_at left cube n.place n.was);
  }
