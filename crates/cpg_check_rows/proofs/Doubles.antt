-- Columns that match together with an earlier one, which breaks V2: when the column at a place does, and the least
-- scenario in which it does, from the places of the columns that can match together with it.
use Rattle.std.proofs.Common.{ℕ, ◌<◌, ◌≤◌, ◌≡◌, true, false, ◌&&◌, List, length, get_or, take, Option, Contains, arith}
use Rattle.std.proofs.Common.{sym, ap, ◌∙◌}
use Rattle.std.specs.List.{list_any}
use Rattle.std.proofs.Math.Bool.{or-false}
use Rattle.std.proofs.lemmas.List.{drop_more, drop_all}
use Rattle.cpg_base.specs.Graph.{Graph}
use Rattle.cpg_base.specs.Scenario.{Scenario}
use Rattle.cpg_base.specs.First.{IsFirst}
use Rattle.cpg_base.proofs.First.{first_same}
use Rattle.cpg_cube.specs.Cube.{matches}
use Rattle.cpg_cube.specs.declared.column.Column.{Column}
use Rattle.cpg_cube.specs.Column.{column_at}
use Rattle.cpg_table.specs.Valid.{breaks_single}
use Rattle.cpg_violation.specs.Sieves.{is_at}
use Rattle.cpg_violation.proofs.SieveLaws.{before_at}
use Rattle.cpg_violation.proofs.Tests.{same_where}
use Rattle.cpg_check_rows.specs.Single.{is_double}

-- at a place of the row, `is_double` says just whether the column there matches together with an earlier one: that
-- column is all that is left of the row from there, cut to one
pub double_at : (columns : List Column) (i : ℕ) (d : Column) (s : Scenario) → i < length columns →
    (matches (get_or columns i d).cube s && breaks_single s (take i columns)) ≡ is_double columns i s
double_at columns i d s within = sym (or-false (matches (get_or columns i d).cube s
    && breaks_single s (take i columns)))
    ∙ sym (ap (λ l. list_any (λ c. matches c.cube s && breaks_single s (take i columns)) (take 1 l))
    (drop_more columns i d within))

-- at a place `i` past the row's last there is no column, so none that matches together with an earlier one
pub double_past : (columns : List Column) (i : ℕ) (s : Scenario) → length columns ≤ i → is_double columns i s ≡ false
double_past columns i s at_most =
    ap (λ l. list_any (λ c. matches c.cube s && breaks_single s (take i columns)) (take 1 l))
    (drop_all i columns at_most)

-- a column, at place `i` of a row, and places of the row; a default `d`, which isn't taken
module _ (g : Graph) (order : List ℕ) (columns : List Column) (i : ℕ) (d : Column) (within : i < length columns)
    (places : List ℕ) where
  -- if each column that ever matches with the one at `i` is among the places, the least scenario in which this one
  -- matches with an earlier one of them is the least in which it breaks V2
  pub at_place : (o : Option Scenario) →
      ((s : Scenario) (j : ℕ) → matches (get_or columns i d).cube s ≡ true → j < length columns →
      matches (column_at columns j).cube s ≡ true → Contains places j)
      → IsFirst g order (λ s. matches (get_or columns i d).cube s && list_any (is_at (take i columns) s) places) o →
      IsFirst g order (is_double columns i) o
  at_place o among is_first = first_same g order
      (λ s. matches (get_or columns i d).cube s && list_any (is_at (take i columns) s) places) (is_double columns i) o
      (λ s _. same_where (matches (get_or columns i d).cube s) (list_any (is_at (take i columns) s) places)
      (breaks_single s (take i columns))
      (λ m. before_at columns i places s (omega arith) (λ j l n. among s j m l n))
      ∙ double_at columns i d s within) is_first
