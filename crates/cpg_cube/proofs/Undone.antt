-- What undoes a narrowing.
use Rattle.std.proofs.Common.{ℕ, zero, suc, ◌<◌, ◌≡◌, List, [], ◌∷◌, ◌++◌, length, Some, None, arith, refl, sym, ap}
use Rattle.std.proofs.Common.{◌∙◌, get_or}
use Rattle.std.specs.Prelude.{slice_index_or, slice_set, insert, remove}
use Rattle.std.proofs.lemmas.List.{get_or-set_same}
use Rattle.cpg_cube.specs.Cube.{Literal}
use Rattle.cpg_cube.specs.Undo.{IsOn, IsUndo}

-- given: the element x that is put into a list
module _ {T : Type 0} (x : T) where
  -- taking off the last element, which was put there, gives the list from before
  removed_last : (xs : List T) → remove (xs ++ x ∷ []) (length xs) ≡ xs
  removed_last [] = refl
  removed_last (y ∷ ys) = ap (λ zs. y ∷ zs) (removed_last ys)

  -- the list with an element put last has a place behind all from before
  last_there : (xs : List T) → length xs < length (xs ++ x ∷ [])
  last_there [] = omega arith
  last_there (y ∷ ys) = omega (arith, last_there ys)

  -- taking off an element that was put in at a place gives the list from before
  removed_in : (xs : List T) (i : ℕ) → i < length xs → remove (insert xs i x) i ≡ xs
  removed_in [] i inside = absurd (omega (arith, inside))
  removed_in (y ∷ ys) zero inside = refl
  removed_in (y ∷ ys) (suc i) inside = ap (λ zs. y ∷ zs) (removed_in ys i (omega (arith, inside)))

  -- the list with x put in at place i has a place i
  in_there : (xs : List T) (i : ℕ) → i < length xs → i < length (insert xs i x)
  in_there [] i inside = absurd (omega (arith, inside))
  in_there (y ∷ ys) zero inside = omega arith
  in_there (y ∷ ys) (suc i) inside = omega (arith, in_there ys i (omega (arith, inside)))

  -- setting back the element from before gives the list from before
  set_back : (xs : List T) (i : ℕ) (d : T) → i < length xs → slice_set (slice_set xs i x) i (slice_index_or xs i d) ≡ xs
  set_back [] i d inside = absurd (omega (arith, inside))
  set_back (y ∷ ys) zero d inside = refl
  set_back (y ∷ ys) (suc i) d inside = ap (λ zs. y ∷ zs) (set_back ys i d (omega (arith, inside)))

  -- the list with an element set still has the place
  set_there : (xs : List T) (i : ℕ) → i < length xs → i < length (slice_set xs i x)
  set_there [] i inside = absurd (omega (arith, inside))
  set_there (y ∷ ys) zero inside = omega arith
  set_there (y ∷ ys) (suc i) inside = omega (arith, set_there ys i (omega (arith, inside)))

  -- at the end stands what was put last
  last_is : (xs : List T) (d : T) → get_or (xs ++ x ∷ []) (length xs) d ≡ x
  last_is [] d = refl
  last_is (y ∷ ys) d = last_is ys d

  -- at the place stands what was put in
  in_is : (xs : List T) (i : ℕ) (d : T) → i < length xs → get_or (insert xs i x) i d ≡ x
  in_is [] i d inside = absurd (omega (arith, inside))
  in_is (y ∷ ys) zero d inside = refl
  in_is (y ∷ ys) (suc i) d inside = in_is ys i d (omega (arith, inside))

-- given: the literal l that is put in or set, and the literals xs from before
module _ (l : Literal) (xs : List Literal) where
  -- a literal put last is taken off at its place
  pub undo_last : (new : List Literal) (place : ℕ) → place ≡ length xs → new ≡ xs ++ l ∷ [] →
      IsUndo (record { place = place; was = None }) new xs
  undo_last new place at is = record {
    place = rw (is, at) (last_there l xs);
    back = rw (is, at) (removed_last l xs);
  }

  -- a literal put in at a place is taken off there
  pub undo_in : (new : List Literal) (place : ℕ) → place < length xs → new ≡ insert xs place l →
      IsUndo (record { place = place; was = None }) new xs
  undo_in new place inside is = record {
    place = rw is (in_there l xs place inside);
    back = rw is (removed_in l xs place inside);
  }

  -- a literal that was set at a place is replaced by the one that was there
  pub undo_set : (new : List Literal) (place : ℕ) (was d : Literal) → place < length xs →
      was ≡ slice_index_or xs place d →
      new ≡ slice_set xs place l →
      IsUndo (record { place = place; was = Some was }) new xs
  undo_set new place was d inside there is = record {
    place = rw is (set_there l xs place inside);
    back = rw (is, there) (set_back l xs place d inside);
  }

  -- ---- the literal there is on the variable

  -- at the place of a narrowing is a literal on the variable, if it was put last
  pub on_last : (new : List Literal) (place : ℕ) → place ≡ length xs → new ≡ xs ++ l ∷ [] →
      IsOn l.variable (record { place = place; was = None }) new
  on_last new place at is = record {
    there = λ d. let is_l : get_or new place d ≡ l = rw (is, at) (last_is l xs d) in
        ap (λ (m : Literal). m.variable) is_l;
    was = tt;
  }

  -- at the place of a narrowing is a literal on the variable, if it was put in there
  pub on_in : (new : List Literal) (place : ℕ) → place < length xs → new ≡ insert xs place l →
      IsOn l.variable (record { place = place; was = None }) new
  on_in new place inside is = record {
    there = λ d. let is_l : get_or new place d ≡ l = rw is (in_is l xs place d inside) in
        ap (λ (m : Literal). m.variable) is_l;
    was = tt;
  }

  -- at the place of a narrowing is a literal on v, as was the one before it, if l is on v too and was set there
  pub on_set : (new : List Literal) (place v : ℕ) (was : Literal) → place < length xs → was.variable ≡ v →
      l.variable ≡ v →
      new ≡ slice_set xs place l →
      IsOn v (record { place = place; was = Some was }) new
  on_set new place v was inside was_on on is = record {
    there = λ d. let is_l : get_or new place d ≡ l = rw is (get_or-set_same xs place l d inside) in
        ap (λ (m : Literal). m.variable) is_l ∙ on;
    was = was_on;
  }
