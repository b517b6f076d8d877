-- Whether a frame arrives, by the column that it names.
use Rattle.std.proofs.Common.{ℕ, ◌<◌, ◌≡◌, ◌==◌, ◌&&◌, ◌||◌, Bool, true, false, cond, nat_lt, List, [], ◌∷◌, length}
use Rattle.std.proofs.Common.{get_or, Some, None, refl, sym, ap, ◌∙◌, arith, lt-ltb, le-ltb, inl, inr}
use Rattle.std.specs.Prelude.{slice_get}
use Rattle.std.specs.List.{list_any}
use Rattle.std.proofs.lemmas.Bool.{cases_lt}
use Rattle.std.proofs.lemmas.Option.{slice_get-get_or, get_or_from_slice_get, slice_get_within, none-some}
use Rattle.cpg_cube.specs.declared.column.Column.{Column}
use Rattle.cpg_table.specs.Table.{Row, columns_in}
use Rattle.cpg_node.specs.Dispatcher.{OwnTable, Frame, no_column}
use Rattle.cpg_node.specs.State.{arrives}

-- an item of which some row has a column has a row; by induction: the columns of an item are those of its first row
has_row : (rows : List Row) (x i : ℕ) → i < length (columns_in rows x) →
    list_any (λ (row : Row). row.item == x) rows ≡ true
has_row [] x i inside = absurd (omega (arith, inside))
has_row (row ∷ rows) x i l = go (row.item == x) (has_row rows x i) l
  where
    -- by whether the first row is of item x
    go : (b : Bool) → (i < length (columns_in rows x) → list_any (λ (row : Row). row.item == x) rows ≡ true) →
        i < length (cond b row.columns (columns_in rows x)) →
        (b || list_any (λ (row : Row). row.item == x) rows) ≡ true
    go true later inside = refl
    go false later inside = later inside

-- given: a node's table, a time, and a frame f
module _ (table : OwnTable) (arrival : ℕ) (f : Frame) where
  -- a frame that names a column arrives at a time if and only if the column has that time: the first two conditions of
  -- `arrives`, that there is a row and such a column, hold
  pub arrives_at : (c : Column) → slice_get (columns_in table.hears f.item) f.column ≡ Some c →
      (c.time == arrival) ≡ arrives table arrival f
  arrives_at c is =
      let inside : f.column < length (columns_in table.hears f.item) =
      slice_get_within (columns_in table.hears f.item) f.column c is in
      sym (ap (λ b. b && nat_lt f.column (length (columns_in table.hears f.item))
      && ((get_or (columns_in table.hears f.item) f.column no_column).time == arrival))
      (has_row table.hears f.item f.column inside)
      ∙ ap (λ b. b && ((get_or (columns_in table.hears f.item) f.column no_column).time == arrival))
      (lt-ltb f.column (length (columns_in table.hears f.item)) inside)
      ∙ ap (λ (d : Column). d.time == arrival)
      (get_or_from_slice_get (columns_in table.hears f.item) f.column c no_column is))

  -- a frame that names no column of its item arrives at no time: the second condition of `arrives` fails
  pub arrives_nowhere : slice_get (columns_in table.hears f.item) f.column ≡ None → false ≡ arrives table arrival f
  arrives_nowhere is = elim (cases_lt f.column (length (columns_in table.hears f.item))) [
    | inl l ↦ absurd (none-some (get_or (columns_in table.hears f.item) f.column no_column)
        (sym is ∙ slice_get-get_or (columns_in table.hears f.item) f.column no_column l))
    | inr past ↦ sym (ap (λ b. list_any (λ (row : Row). row.item == f.item) table.hears && b
        && ((get_or (columns_in table.hears f.item) f.column no_column).time == arrival))
        (le-ltb f.column (length (columns_in table.hears f.item)) past)
        ∙ never (list_any (λ (row : Row). row.item == f.item) table.hears))
  ]
    where
      -- the frame's column isn't there, so the frame doesn't arrive, whether the item has a row or not
      never : (b : Bool) →
          (b && false && ((get_or (columns_in table.hears f.item) f.column no_column).time == arrival)) ≡ false
      never true = refl
      never false = refl
