-- What a node may do: its plan. An entry of it (`Planned`) is a column of a send or a start, with its place.
use Rattle.std.specs.Prelude.{ℕ, ◌≡◌, ◌≤◌, ◌<◌, ◌+◌, Bool, true, false, ◌==◌, List, [], ◌∷◌, ◌++◌, Option, filter}
use Rattle.std.specs.Prelude.{length, get_or}
use Rattle.std.specs.List.{list_all}
use Rattle.std.specs.List.Sorted.{IsNonDecreasingBy}
use Rattle.cpg_cube.specs.declared.literal.Literal.{Literal}
use Rattle.cpg_table.specs.Table.{Row}
use Rattle.cpg_cube.specs.declared.column.Column.{Column}
use Rattle.cpg_node.specs.Dispatcher.{OwnTable, Act, Range, times_in, is_after, has_heard, no_column}
pub use Rattle.cpg_node.specs.declared.plan.Planned.{Planned}

-- the entries of the columns of item x, whose row has the place `row`; the first column has the number i
abbrev pub plan_of_columns : ℕ → ℕ → ℕ → List Column → List Planned
plan_of_columns row x i [] = []
plan_of_columns row x i (c ∷ cs) =
    record { time = c.time; row = row; item = x; column = i } ∷ plan_of_columns row x (i + 1) cs

-- the entries of rows, the first of which has the place `place`
abbrev pub plan_from : ℕ → List Row → List Planned
plan_from place [] = []
plan_from place (row ∷ rows) = plan_of_columns place row.item 0 row.columns ++ plan_from (place + 1) rows

-- the entries of what a node sends, then of what it starts, not in order of time
abbrev pub plan_of : OwnTable → List Planned
plan_of table = plan_from 0 (table.sends ++ table.starts)

-- the row that is taken if there is none at a place
abbrev pub no_row : Row
no_row = record { item = 0; columns = [] }

-- the literals of an entry's column
abbrev pub cube_at : List Row → Planned → List Literal
cube_at rows p = (get_or (get_or rows p.row no_row).columns p.column no_column).cube

-- whether all literals of an entry follow from what has been heard
abbrev pub takes : List Row → List Range → Planned → Bool
takes rows heard p = list_all (has_heard heard) (cube_at rows p)

-- the act of an entry
abbrev pub act_of : Planned → Act
act_of p = record { time = p.time; item = p.item; column = p.column }

-- the times of all columns of a table
abbrev pub fixed_times : OwnTable → List ℕ
fixed_times table = times_in table.starts ++ times_in table.sends ++ times_in table.hears

-- both lists have the same entries at each time, in the same order
abbrev pub SameAtEachTime : List Planned → List Planned → Type 0
SameAtEachTime ps qs =
    (time : ℕ) → filter (λ (p : Planned). p.time == time) ps ≡ filter (λ (p : Planned). p.time == time) qs

-- the elements of xs are in order of time, and `place` is where those after the last turn begin
pub record IsPlaceAfter {X : Type 0} (time : X → ℕ) (last : Option ℕ) (xs : List X) (place : ℕ) : Type 0 where
  pub within : place ≤ length xs
  pub rises : IsNonDecreasingBy time xs
  -- those before the place are no later than the last turn
  pub reached : (i : ℕ) (d : X) → i < place → is_after last (time (get_or xs i d)) ≡ false
  -- those from the place on are later
  pub left : (i : ℕ) (d : X) → place ≤ i → i < length xs → is_after last (time (get_or xs i d)) ≡ true
