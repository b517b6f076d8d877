-- At an item whose row has a tree V2 is sure, and so is V3 if the item is inactive wherever the tree has no place.
use Rattle.std.proofs.Common.{ℕ, ◌<◌, ◌≡◌, false, not, ◌&&◌, List, [], Option, None, Some, length, get_or, take, arith}
use Rattle.std.proofs.Common.{refl, ap, ◌∙◌, subst, inl, inr}
use Rattle.std.specs.List.{list_any}
use Rattle.std.specs.Prelude.{IfSome, is_some}
use Rattle.std.proofs.Math.Bool.{and-false, or-false}
use Rattle.std.proofs.lemmas.Bool.{cases_lt}
use Rattle.std.specs.Bool.{OnTrue}
use Rattle.std.proofs.lemmas.List.{drop_more, drop_all, get_or_default}
use Rattle.cpg_base.specs.Graph.{Graph, item_at}
use Rattle.cpg_base.specs.Activity.{item_active}
use Rattle.cpg_base.proofs.Lists.{list_any_true, list_any_at_place}
use Rattle.cpg_base.specs.Scenario.{Scenario, IsScenario}
use Rattle.cpg_cube.specs.Cube.{matches}
use Rattle.cpg_table.specs.Table.{NodeTable, columns_of}
use Rattle.cpg_cube.specs.declared.column.Column.{Column}
use Rattle.cpg_cube.specs.Column.{column_at}
use Rattle.cpg_table.specs.Valid.{breaks_at, breaks_present}
use Rattle.cpg_table.specs.declared.rule.Rule.{Rule}
use Rattle.cpg_row_trees.specs.PlacesState.{PlacesState}
use Rattle.cpg_row_trees.specs.Places.{place_at}
use Rattle.cpg_row_trees.specs.Trees.{IsRowTree}
use Rattle.cpg_row_trees.proofs.TreeLaws.{none_earlier, place_there, place_matches, tree_of_row}
use Rattle.cpg_violation.specs.Sure.{IsSure}
use Rattle.cpg_violation.proofs.Tests.{off_where}
use Rattle.cpg_row_trees.specs.Trees.{AreRowTrees}
use Rattle.cpg_check_rows.specs.Absent.{IsInactiveIfNone}

-- an item whose row has a tree
module _ (g : Graph) (tables : List NodeTable)
    (x : ℕ) {tree : PlacesState} (is : IsRowTree g (columns_of tables x) tree) where
  -- V2 is sure: no column of the row matches together with an earlier one, as the tree says
  pub single_sure : IsSure g tables Rule.Single x
  single_sure None s law = refl
  single_sure (Some i) s law = elim (cases_lt i (length (columns_of tables x))) [
    | inl within ↦ ap (λ cs. list_any (breaks_at Rule.Single g tables s x (take i (columns_of tables x))) (take 1 cs))
        (drop_more (columns_of tables x) i (record { time = 0; cube = [] }) within)
        ∙ or-false
        (breaks_at Rule.Single g tables s x (take i (columns_of tables x)) (column_at (columns_of tables x) i))
        ∙ off_where (matches (column_at (columns_of tables x) i).cube s) (list_any (λ (d : Column). matches d.cube s)
        (take i (columns_of tables x))) (λ it_matches. none_earlier is s law i within it_matches)
    | inr past ↦ ap (λ cs. list_any (breaks_at Rule.Single g tables s x (take i (columns_of tables x))) (take 1 cs))
        (drop_all i (columns_of tables x) past)
  ]

  -- V3 is sure if the item is inactive wherever the tree has no place: elsewhere the column at the tree's place matches
  pub present_sure : ((s : Scenario) → IsScenario g s → IsInactiveIfNone g x (place_at tree s) s) →
      IsSure g tables Rule.Present x
  present_sure idle (Some i) s law =
      list_any_at_place (breaks_at Rule.Present g tables s x (take i (columns_of tables x))) (columns_of tables x) i
      (λ c k. and-false (matches c.cube s))
  present_sure idle None s law = go (place_at tree s) refl
    where
      -- without a place the item is inactive, so it needs no column; with a place the column there matches
      go : (o : Option ℕ) → place_at tree s ≡ o → breaks_present g tables s x ≡ false
      go None equal =
          ap (λ b. b && not (list_any (λ (d : Column). matches d.cube s) (columns_of tables x))) (idle s law equal law)
      go (Some i) same =
          let there : i < length (columns_of tables x) = place_there is s law i same in
          -- some column matches: the one at the tree's place
          let some =
          list_any_true (λ (d : Column). matches d.cube s) (columns_of tables x) (column_at (columns_of tables x) i) (
            i,
            there,
            get_or_default (columns_of tables x) i (column_at (columns_of tables x) i)
                (record { time = 0; cube = [] }) there,
          ) (place_matches is s law i same) in
          ap (λ b. item_active g s.values (item_at g x) && not b) some
          ∙ and-false (item_active g s.values (item_at g x))

-- row trees, and what they have for item `x`, `o`
module _ (g : Graph) (tables : List NodeTable) (trees : List (Option PlacesState)) (x : ℕ)
    (o : Option PlacesState) where
  -- if the row trees have a tree for the item, it is a tree of the columns of the item's row
  here : x < length trees → o ≡ get_or trees x o → AreRowTrees g tables trees →
      IfSome o (IsRowTree g (columns_of tables x))
  here there is are = tree_of_row g tables trees x are (omega (arith, there, are.count)) o is

  -- if `o` is `tree`, this is a tree of the columns of the item's row
  pub tree_at : (tree : PlacesState) → x < length trees → o ≡ get_or trees x o → o ≡ Some tree →
      AreRowTrees g tables trees →
      IsRowTree g (columns_of tables x) tree
  tree_at tree there is some are = subst (λ p. IfSome p (IsRowTree g (columns_of tables x))) some (here there is are)

  -- V2 is sure at the item if the row trees have a tree for it
  pub single_at : x < length trees → o ≡ get_or trees x o → AreRowTrees g tables trees →
      OnTrue (is_some o) (IsSure g tables Rule.Single x)
  single_at there is are = go o (here there is are)
    where
      -- by whether there is a tree
      go : (o : Option PlacesState) → IfSome o (IsRowTree g (columns_of tables x)) →
          OnTrue (is_some o) (IsSure g tables Rule.Single x)
      go None if_some = tt
      go (Some tree) if_some = single_sure g tables x if_some
