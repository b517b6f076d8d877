-- The list of telling rows, which is made item by item.
use Rattle.std.proofs.Common.{ℕ, zero, suc, ◌+◌, ◌<◌, ◌≡◌, List, [], ◌∷◌, ◌++◌, get_or, length, Some, arith, refl, sym}
use Rattle.std.proofs.Common.{ap, ◌∙◌, subst, inl, inr, length-append}
use Rattle.std.specs.Prelude.{slice_get}
use Rattle.std.proofs.lemmas.Bool.{cases_lt}
use Rattle.std.proofs.lemmas.Option.{same_Some, slice_get-get_or, slice_get_within}
use Rattle.cpg_base.specs.Graph.{Graph}
use Rattle.cpg_table.specs.Table.{NodeTable}
use Rattle.cpg_check_heard.specs.declared.telling_rows.TellingRow.{TellingRow}
use Rattle.cpg_check_heard.specs.TellingRows.{IsTellingRow, AreTellingRows}

-- place `i` of list `xs` has the same element in `xs` joined with `ys`
get_before : {X : Type 0} (xs ys : List X) (i : ℕ) → i < length xs → slice_get (xs ++ ys) i ≡ slice_get xs i
get_before [] ys i within = absurd (omega arith)
get_before (x ∷ xs) ys zero within = refl
get_before (x ∷ xs) ys (suc i) within = get_before xs ys i (omega arith)

-- the element that is added comes after the others; by induction on `xs`
get_last : {X : Type 0} (xs : List X) (y : X) → slice_get (xs ++ y ∷ []) (length xs) ≡ Some y
get_last [] y = refl
get_last (x ∷ xs) y = get_last xs y

-- the tables that the rows are of
module _ (g : Graph) (tables : List NodeTable) where
  -- before the first item the list is empty
  pub rows_none : AreTellingRows g tables 0 []
  rows_none = record { count = refl; each = λ x t e. absurd (omega (arith, slice_get_within [] x t e)) }

  -- with the row `t` of the next item at the end of `ts`, the list has the rows of one item more: each place below the
  -- end has an earlier row, and the end the new one
  rows_push : (items : ℕ) (ts : List TellingRow) (t : TellingRow) → AreTellingRows g tables items ts →
      IsTellingRow g tables items t →
      AreTellingRows g tables (items + 1) (ts ++ t ∷ [])
  rows_push items ts t are is = record {
    count = omega (arith, are.count, length-append ts (t ∷ []));
    each = λ x u e. elim (cases_lt x (length ts)) [
      | inl earlier ↦ are.each x u (sym (get_before ts (t ∷ []) x earlier) ∙ e)
      | inr not_earlier ↦
          let within = slice_get_within (ts ++ t ∷ []) x u e in
          let last : length ts ≡ x = omega (arith, within, length-append ts (t ∷ [])) in
          let same : t ≡ u =
          same_Some t u (sym (get_last ts t) ∙ subst (λ i. slice_get (ts ++ t ∷ []) i ≡ Some u) (sym last) e) in
          subst (IsTellingRow g tables x) same
          (subst (λ y. IsTellingRow g tables y t)
          (let last_item : items ≡ x = omega (arith, are.count, last) in last_item) is)
    ];
  }

  -- if `more` is `ts` with the row `t` of the next item at its end, it has the rows of one item more
  pub rows_more : (items : ℕ) (ts more : List TellingRow) (t : TellingRow) → more ≡ ts ++ t ∷ [] →
      AreTellingRows g tables items ts → IsTellingRow g tables items t →
      AreTellingRows g tables (items + 1) more
  rows_more items ts more t same are is =
      subst (AreTellingRows g tables (items + 1)) (sym same) (rows_push items ts t are is)

  -- the row `t` that is looked up among `ts` at the number of item `x` is the item's
  pub row_at : (items : ℕ) (ts : List TellingRow) (x : ℕ) (t : TellingRow) → AreTellingRows g tables items ts →
      x < items →
      t ≡ get_or ts x t →
      IsTellingRow g tables x t
  row_at items ts x t are less is =
      are.each x t (slice_get-get_or ts x t (omega (arith, less, are.count)) ∙ ap Some (sym is))
