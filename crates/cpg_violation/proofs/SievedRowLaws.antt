-- The loops of `first_time` and `last_time`, and the rows of all items when one is sifted.
use Rattle.std.proofs.Common.{ℕ, ◌+◌, ◌<◌, ◌≤◌, ◌≡◌, List, length, get_or, slice_set, take, drop, All, arith, ap, ◌∙◌}
use Rattle.std.proofs.Common.{sym, subst, inl, inr}
use Rattle.std.specs.List.{fold}
use Rattle.std.proofs.lemmas.Bool.{cases_eq}
use Rattle.std.proofs.lemmas.List.{drop_more, get_or-set_same, get_or-set_other, length-set}
use Rattle.std.proofs.lemmas.List.Elements.{All-weaker, All-more}
use Rattle.cpg_cube.specs.declared.column.Column.{Column}
use Rattle.cpg_table.specs.Table.{NodeTable, columns_of}
use Rattle.cpg_violation.specs.SievedRows.{AreSievedRows, IsSievedRow}
use Rattle.cpg_violation.specs.declared.sieved_rows.SievedRow.{SievedRow}

-- folding the elements from place `i` on is folding those behind it from the value that the element there gives
pub fold_more : {X : Type 0} (f : ℕ → X → ℕ) (value next : ℕ) (xs : List X) (i : ℕ) (d x : X) → i < length xs →
    x ≡ get_or xs i d →
    next ≡ f value x →
    fold f next (drop (i + 1) xs) ≡ fold f value (drop i xs)
fold_more f value next xs i d x inside is by =
    ap (λ v. fold f v (drop (i + 1) xs)) (by ∙ ap (f value) is) ∙ sym (ap (fold f value) (drop_more xs i d inside))

-- if no column so far is before `first`, and neither `first` nor the next column is before `bound`, none of one column
-- more is before `bound`
pub not_before_more : (columns : List Column) (k : ℕ) (c : Column) (first bound : ℕ) → k < length columns →
    c ≡ get_or columns k c →
    All (λ (d : Column). first ≤ d.time) (take k columns) →
    bound ≤ first → bound ≤ c.time → All (λ (d : Column). bound ≤ d.time) (take (k + 1) columns)
not_before_more columns k c first bound inside is before not_above next_not_above =
    All-more (λ (d : Column). bound ≤ d.time) columns k c inside
    (All-weaker (λ (d : Column). first ≤ d.time) (λ (d : Column). bound ≤ d.time) (λ d member. omega arith)
    (take k columns) before) (subst (λ (d : Column). bound ≤ d.time) is next_not_above)

-- if no column so far is after `last`, and neither `last` nor the next column is after `bound`, none of one column more
-- is after `bound`
pub not_after_more : (columns : List Column) (k : ℕ) (c : Column) (last bound : ℕ) → k < length columns →
    c ≡ get_or columns k c → All (λ (d : Column). d.time ≤ last) (take k columns) → last ≤ bound →
    c.time ≤ bound → All (λ (d : Column). d.time ≤ bound) (take (k + 1) columns)
not_after_more columns k c last bound inside is before not_below next_not_below =
    All-more (λ (d : Column). d.time ≤ bound) columns k c inside
    (All-weaker (λ (d : Column). d.time ≤ last) (λ (d : Column). d.time ≤ bound) (λ d member. omega arith)
    (take k columns) before) (subst (λ (d : Column). d.time ≤ bound) is next_not_below)

-- the sieved rows of all items stay that when the row of item `x` is sifted anew: it has the same columns, and the
-- others don't change
pub rows_sifted : (tables : List NodeTable) (items : ℕ) (rows : List SievedRow) (x : ℕ) (old new : SievedRow) →
    x < length rows →
    (IsSievedRow (columns_of tables x) (get_or rows x old) → IsSievedRow (columns_of tables x) new) →
    AreSievedRows tables items rows → AreSievedRows tables items (slice_set rows x new)
rows_sifted tables items rows x old new within sifts rows_are = record {
  count = length-set rows x new ∙ rows_are.count;
  each = λ y d is_item. elim (cases_eq y x) [
    | inl same ↦ subst (λ z. IsSievedRow (columns_of tables z) (get_or (slice_set rows x new) z d)) (sym same)
        (rw (get_or-set_same rows x new d within) sifted)
    | inr other ↦ rw (get_or-set_other rows x y new d other) (rows_are.each y d is_item)
  ];
}
  where
    -- the new row is a sieved row of the item's columns, as the old one was
    sifted : IsSievedRow (columns_of tables x) new
    sifted = sifts (rows_are.each x old (omega (arith, rows_are.count, within)))
