-- What holds of all rows of a table, and how rows are cut into those of a table.
use Rattle.std.proofs.Common.{◌≡◌, ◌↔◌, ℕ, Bool, false, List, ◌++◌, IsTrue, All, Contains, length, take, drop, sym, ap}
use Rattle.std.proofs.Common.{◌∙◌, true≢false}
use Rattle.std.proofs.Math.Seq.{take-append_seam, drop-append_seam}
use Rattle.std.proofs.lemmas.List.{take-map, drop-map}
use Rattle.std.proofs.lemmas.List.Elements.{All-append, All-weaker, All-contains, All-contains_itself}
use Rattle.std.proofs.lemmas.List.Elements.{Contains-append_left, Contains-append_right}
use Rattle.cpg_table.specs.Table.{Row}
use Rattle.cpg_table.specs.Shape.{items_of}

-- given: a fact P of elements
module _ {X : Type 0} (P : X → Type 0) where
  -- what holds of each element of xs and ys holds of each of xs
  pub All-left : (xs ys : List X) → All P (xs ++ ys) → All P xs
  All-left xs ys each = All-weaker (Contains xs) P
      (λ x c. All-contains P (xs ++ ys) x each (Contains-append_left xs ys x c)) xs (All-contains_itself xs)

  -- what holds of each element of xs and ys holds of each of ys
  pub All-right : (xs ys : List X) → All P (xs ++ ys) → All P ys
  All-right xs ys each = All-weaker (Contains ys) P
      (λ x c. All-contains P (xs ++ ys) x each (Contains-append_right xs ys x c)) ys (All-contains_itself ys)

  -- given: three lists, of which a test says whether P holds of each element
  module _ (xs ys zs : List X) where
    -- if it says no of the first list, P doesn't hold of each element of the three
    pub not_first : (r : Bool) → (IsTrue r ↔ All P xs) → r ≡ false → IsTrue false ↔ All P (xs ++ (ys ++ zs))
    not_first r decides fails = (
      λ k. absurd (true≢false (sym k)),
      λ h. absurd (true≢false
          (sym (decides.1 (All-left xs (ys ++ zs) h)) ∙ fails)),
    )

    -- if it says no of the second list, P doesn't hold of each element of the three
    pub not_second : (r : Bool) → (IsTrue r ↔ All P ys) → r ≡ false → IsTrue false ↔ All P (xs ++ (ys ++ zs))
    not_second r decides fails = (
      λ k. absurd (true≢false (sym k)),
      λ h. absurd (true≢false (sym (decides.1 (All-left ys zs (All-right xs (ys ++ zs) h))) ∙ fails)),
    )

    -- if P holds of each element of the first two, the answer of the third decides
    pub if_third : All P xs → All P ys → (r : Bool) → (IsTrue r ↔ All P zs) → IsTrue r ↔ All P (xs ++ (ys ++ zs))
    if_third each b r decides = (
      λ k. All-append P xs (ys ++ zs) each (All-append P ys zs b (decides.0 k)),
      λ h. decides.1 (All-right ys zs (All-right xs (ys ++ zs) h)),
    )

-- given: rows of three lists of items, one after another, cut at the lengths of the first two
module _ (rows : List Row) (xs ys zs : List ℕ) (is : items_of rows ≡ xs ++ (ys ++ zs)) where
  -- the rows up to the first cut are of the first list
  pub first_items : (n : ℕ) → n ≡ length xs → items_of (take n rows) ≡ xs
  first_items n same = ap (λ k. items_of (take k rows)) same ∙ sym (take-map (λ (r : Row). r.item) (length xs) rows)
      ∙ ap (take (length xs)) is ∙ take-append_seam xs (ys ++ zs)

  -- the rows after it are of the second and third list
  rest_items : (n : ℕ) → n ≡ length xs → items_of (drop n rows) ≡ ys ++ zs
  rest_items n same = ap (λ k. items_of (drop k rows)) same ∙ sym (drop-map (λ (r : Row). r.item) (length xs) rows)
      ∙ ap (drop (length xs)) is ∙ drop-append_seam xs (ys ++ zs)

  -- the rows between the cuts are of the second list
  pub second_items : (n m : ℕ) → n ≡ length xs → m ≡ length ys → items_of (take m (drop n rows)) ≡ ys
  second_items n m same f =
      ap (λ k. items_of (take k (drop n rows))) f ∙ sym (take-map (λ (r : Row). r.item) (length ys) (drop n rows))
      ∙ ap (take (length ys)) (rest_items n same) ∙ take-append_seam ys zs

  -- the rows after the second cut are of the third list
  pub third_items : (n m : ℕ) → n ≡ length xs → m ≡ length ys → items_of (drop m (drop n rows)) ≡ zs
  third_items n m same f =
      ap (λ k. items_of (drop k (drop n rows))) f ∙ sym (drop-map (λ (r : Row). r.item) (length ys) (drop n rows))
      ∙ ap (drop (length ys)) (rest_items n same) ∙ drop-append_seam ys zs
