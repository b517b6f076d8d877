-- None of the columns of which a tree was made matches together with an earlier one: a column that matches in a
-- scenario is at the place that the tree has for it, so only one does.
use Rattle.std.proofs.Common.{ℕ, ◌<◌, ◌≡◌, false, ◌&&◌, List, [], Option, None, Some, length, get_or, take, arith, sym}
use Rattle.std.proofs.Common.{ap, ◌∙◌, inl, inr}
use Rattle.std.specs.Prelude.{IfSome, is_some}
use Rattle.std.specs.Bool.{OnTrue}
use Rattle.std.proofs.lemmas.Bool.{cases_lt}
use Rattle.std.proofs.lemmas.List.{get_or-take, length-take, take-take}
use Rattle.cpg_base.specs.Graph.{Graph}
use Rattle.cpg_base.specs.Scenario.{Scenario, IsScenario}
use Rattle.cpg_cube.specs.Cube.{matches}
use Rattle.cpg_cube.specs.declared.column.Column.{Column}
use Rattle.cpg_cube.specs.Column.{column_at}
use Rattle.cpg_table.specs.Valid.{breaks_single}
use Rattle.cpg_row_trees.specs.PlacesState.{PlacesState}
use Rattle.cpg_row_trees.specs.Trees.{IsRowTree}
use Rattle.cpg_violation.proofs.Tests.{off_where}
use Rattle.cpg_row_trees.proofs.TreeLaws.{none_earlier}
use Rattle.cpg_check_rows.specs.Single.{is_double}
use Rattle.cpg_check_rows.proofs.Doubles.{double_at, double_past}

-- if one of the first `n` columns by themselves doesn't match together with an earlier one, neither does it in the row:
-- the column and those before it are the same
front_as : (columns : List Column) (n i : ℕ) (s : Scenario) → i < n → is_double (take n columns) i s ≡ false →
    is_double columns i s ≡ false
front_as columns n i s less none = elim (cases_lt i (length columns)) [
  | inl within ↦
      let blank : Column = record { time = 0; cube = [] } in
      let here : i < length (take n columns) = omega (arith, within, less, length-take n columns) in
      sym (double_at columns i blank s within)
      ∙ ap (λ (c : Column). matches c.cube s && breaks_single s (take i columns))
      (sym (get_or-take n columns i blank less))
      ∙ ap (λ cs. matches (get_or (take n columns) i blank).cube s && breaks_single s cs)
      (sym (take-take i n columns (omega (arith, less))))
      ∙ double_at (take n columns) i blank s here ∙ none
  | inr past ↦ double_past columns i s past
]

-- if a row has a tree, its column at place `i` doesn't match a scenario `s` together with an earlier one
none_double : (g : Graph) (columns : List Column) (tree : PlacesState) → IsRowTree g columns tree →
    (i : ℕ) (s : Scenario) → IsScenario g s →
    is_double columns i s ≡ false
none_double g columns tree is i s law = elim (cases_lt i (length columns)) [
  | inl l ↦ sym (double_at columns i (record { time = 0; cube = [] }) s l) ∙ off_where
      (matches (column_at columns i).cube s) (breaks_single s (take i columns))
      (λ it_matches. none_earlier is s law i l it_matches)
  | inr past ↦ double_past columns i s past
]

-- if the first `n` columns of a row have a tree (`o`), none of them matches a scenario together with an earlier one
pub none_by_tree : (g : Graph) (columns : List Column) (n : ℕ) (o : Option PlacesState) →
    IfSome o (IsRowTree g (take n columns))
    → OnTrue (is_some o) ((i : ℕ) (s : Scenario) → i < n → IsScenario g s → is_double columns i s ≡ false)
none_by_tree g columns n None is = tt
none_by_tree g columns n (Some tree) is =
    λ i s less law. front_as columns n i s less (none_double g (take n columns) tree is i s law)
