-- A list from which items are taken out, one place at a time.
use Rattle.std.proofs.Common.{ℕ, ◌+◌, ◌-◌, ◌<◌, ◌≤◌, ◌≡◌, List, ◌++◌, length, take, drop, get_or, arith, refl, sym, ap}
use Rattle.std.proofs.Common.{◌∙◌, subst}
use Rattle.std.specs.Prelude.{slice_set, slice_index_or}
use Rattle.std.proofs.lemmas.List.{get_or-drop, length-drop, take_all}
use Rattle.std.proofs.Math.Seq.{paste, paste-zero}
use Rattle.std.proofs.lemmas.List.Edits.{drop-paste, take-paste, paste_more}

-- given: a list, from which `count` elements are taken out at the place `from`
module _ {A : Type 0} (old : List A) (from count : ℕ) where
  -- the list after the items up to a place have been moved
  abbrev pub moved : ℕ → List A
  moved i = paste old from (drop (from + count) old) (i - from)

  -- given: a place j behind `from`, with an element `count` places further on; `x` stands for that element
  module _ (j : ℕ) (x : A) (there : from + j + count < length old) where
    -- the place is within what stands behind the items taken out
    rest_long : j < length (drop (from + count) old)
    rest_long = omega (arith, length-drop (from + count) old, there)

    -- the same place, counted in another order
    same_place : from + j + count ≡ from + count + j
    same_place = omega arith

    -- an item behind those that are taken out is read from its old place
    reads : slice_index_or (paste old from (drop (from + count) old) j) (from + j + count) x
        ≡ get_or (drop (from + count) old) j x
    reads =
        sym (get_or-drop (from + j) (paste old from (drop (from + count) old) j) count x)
        ∙ ap (λ (xs : List A). get_or xs count x)
        (drop-paste old from (drop (from + count) old) j (omega (arith, there)) (omega (arith, rest_long)))
        ∙ get_or-drop (from + j) old count x
        ∙ ap (λ n. get_or old n x) same_place
        ∙ sym (get_or-drop (from + count) old j x)

    -- writing the next item one place further is pasting one item more
    turn : x ≡ slice_index_or (paste old from (drop (from + count) old) j) (from + j + count) x →
        slice_set (paste old from (drop (from + count) old) j) (from + j) x ≡ paste old from (drop
        (from + count) old) (j + 1)
    turn value = ap (λ y. slice_set (paste old from (drop (from + count) old) j) (from + j) y) (value ∙ reads)
        ∙ paste_more old from (drop (from + count) old) j x (omega (arith, there)) rest_long

  -- one more item is moved
  pub moved_on : (so_far : List A) (i : ℕ) (x : A) → from ≤ i → i + count < length old → so_far ≡ moved i →
      x ≡ slice_index_or so_far (i + count) x →
      slice_set so_far i x ≡ moved (i + 1)
  moved_on so_far i x after there is value =
      let at : from + (i - from) ≡ i = omega (arith, after) in
      let more : i - from + 1 ≡ i + 1 - from = omega (arith, after) in
      ap (λ (xs : List A). slice_set xs i x) is ∙ ap (λ n. slice_set (moved i) n x) (sym at)
      ∙ turn (i - from) x (omega (arith, at, there)) (value ∙ ap (λ (xs : List A). slice_index_or xs (i + count) x) is
      ∙ ap (λ n. slice_index_or (moved i) (n + count) x) (sym at))
      ∙ ap (λ n. paste old from (drop (from + count) old) n) more

  -- when all items are moved, the rest is cut off
  pub moved_all : (left : ℕ) → left + count ≡ length old → from ≤ left →
      take left (moved left) ≡ take from old ++ drop (from + count) old
  moved_all left all after =
      let rest : List A = drop (from + count) old in
      let long : length rest ≡ left - from = omega (arith, length-drop (from + count) old, all, after) in
      let at : from + (left - from) ≡ left = omega (arith, after) in
      ap (λ n. take n (moved left)) (sym at)
      ∙ take-paste old from rest (left - from) (omega (arith, all, after)) (omega (arith, long))
      ∙ ap (λ n. take from old ++ take n rest) (sym long)
      ∙ ap (λ (xs : List A). take from old ++ xs) (take_all (length rest) rest (omega arith))

  -- before any item is moved, the list is the old one
  pub moved_none : old ≡ moved from
  moved_none =
      let none : 0 ≡ from - from = omega arith in
      paste-zero old from (drop (from + count) old) ∙ ap (λ n. paste old from (drop (from + count) old) n) none
