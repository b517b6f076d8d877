-- Two lists compared element by element: how far they agree, and where they differ first.
use Rattle.std.proofs.Common.{ℕ, ◌+◌, ◌<◌, ◌≤◌, ◌≡◌, ◌≢◌, List, [], ◌∷◌, ◌++◌, length, get_or, take, map, min, arith}
use Rattle.std.proofs.Common.{sym, ap, ap₂, ◌∙◌, inl, inr}
use Rattle.std.specs.Prelude.{slice_get}
use Rattle.std.proofs.lemmas.Bool.{cases_lt}
use Rattle.std.proofs.lemmas.List.{take_more, take_all, get_or-map, length-map, get_or_default}
use Rattle.std.proofs.lemmas.Option.{slice_get-get_or, slice_get_past, same_Some, none-some}

-- given: two lists, and a place; `d` and `e` are only defaults of `get_or`
module _ {X : Type 0} (xs ys : List X) (i : ℕ) where
  -- lists that agree in the first `i` elements and at place `i` agree in one element more
  pub same_more : (d e : X) → i < length xs → i < length ys → get_or xs i d ≡ get_or ys i e → take i xs ≡ take i ys →
      take (i + 1) xs ≡ take (i + 1) ys
  same_more d e in_xs in_ys same so_far = take_more xs i d in_xs ∙ ap₂ (λ ts x. ts ++ x ∷ []) so_far same
      ∙ sym (take_more ys i e in_ys)

  -- lists `xs` and `ys` whose elements at place `i` differ, differ there; the defaults `d` and `e` aren't read
  pub differ_here : (d e : X) → i < length xs → i < length ys → get_or xs i d ≢ get_or ys i e →
      slice_get xs i ≢ slice_get ys i
  differ_here d e in_xs in_ys differ equal =
      differ (same_Some (get_or xs i d) (get_or ys i e)
      (sym (slice_get-get_or xs i d in_xs) ∙ equal ∙ slice_get-get_or ys i e in_ys))

  -- lists `xs` and `ys` whose elements at place `i` differ aren't the same; the second one may have ended
  pub differ_lists : (d e : X) → i < length xs → get_or xs i d ≢ get_or ys i e → xs ≢ ys
  differ_lists d e in_xs differ equal = differ (get_or_default xs i d e in_xs ∙ ap (λ zs. get_or zs i e) equal)

  -- if the first list has ended at the place and the second hasn't, they differ there
  pub ends_first : length xs ≤ i → i < length ys → slice_get xs i ≢ slice_get ys i
  ends_first xs_ended in_ys equal = go ys in_ys equal
    where
      -- the second one isn't empty, so it has an element there; the first one has none
      go : (ys : List X) → i < length ys → slice_get xs i ≡ slice_get ys i → ⊥
      go [] still_in_ys still_equal = absurd (omega arith)
      go (y ∷ ys) still_in_ys still_equal =
          none-some (get_or (y ∷ ys) i y)
          (sym (slice_get_past xs i xs_ended) ∙ still_equal ∙ slice_get-get_or (y ∷ ys) i y still_in_ys)

-- lists `xs` and `ys` of different lengths differ at place `i`, where the shorter one ends
pub ends_differ : {X : Type 0} (xs ys : List X) (i : ℕ) → i ≡ min (length xs) (length ys) → length xs ≢ length ys →
    slice_get xs i ≢ slice_get ys i
ends_differ xs ys i is_min lengths_differ = elim (cases_lt i (length ys)) [
  | inl lt ↦ ends_first xs ys i (omega arith) lt
  | inr ge ↦ λ equal. ends_first ys xs i ge (omega (arith, lengths_differ)) (sym equal)
]

-- lists that agree in the first `i` elements, and have no others, are the same
pub same_whole : {X : Type 0} (xs ys : List X) (i : ℕ) → length xs ≤ i → length ys ≤ i → take i xs ≡ take i ys → xs ≡ ys
same_whole xs ys i xs_ended ys_ended so_far = sym (take_all i xs xs_ended) ∙ so_far ∙ take_all i ys ys_ended

-- given: `x` and `y`, the elements at place `i` of two lists, the second of which is then mapped
module _ {X Y : Type 0} (f : Y → X) (xs : List X) (ys : List Y) (i : ℕ) (x : X) (y : Y) (in_xs : i < length xs)
    (in_ys : i < length ys) (is : x ≡ get_or xs i x) (at : y ≡ get_or ys i y) where
  -- the mapped list has the mapped element there
  mapped : get_or (map f ys) i (f y) ≡ f y
  mapped = get_or-map f ys i y (f y) in_ys ∙ ap f (sym at)

  -- if the first list and the mapped second one agree in the first `i` elements and at the place, they agree in one
  -- more
  pub same_more_mapped : x ≡ f y → take i xs ≡ take i (map f ys) → take (i + 1) xs ≡ take (i + 1) (map f ys)
  same_more_mapped same so_far =
      same_more xs (map f ys) i x (f y) in_xs (omega (arith, length-map ys f)) (sym is ∙ same ∙ sym mapped) so_far

  -- if their elements at the place differ, they differ there
  pub differ_mapped : x ≢ f y → slice_get xs i ≢ slice_get (map f ys) i
  differ_mapped differ =
      differ_here xs (map f ys) i x (f y) in_xs (omega (arith, length-map ys f)) (λ equal. differ (is ∙ equal ∙ mapped))
