-- A tree has as many columns as its list of items has times.
use Rattle.std.proofs.Common.{ℕ, ◌+◌, ◌≤◌, ◌≡◌, List, [], ◌∷◌, ◌++◌, Option, Some, None, length, filter, arith, refl}
use Rattle.std.proofs.Common.{sym, ap, ◌∙◌}
use Rattle.std.proofs.lemmas.List.{length-append}
use Rattle.std.proofs.lemmas.List.Elements.{filter-append}
use Rattle.std.proofs.lemmas.Grind.{flat_map-append}
use Rattle.cpg_cube.specs.declared.literal.Literal.{Literal}
use Rattle.cpg_cube.specs.Narrow.{narrowed_by}
use Rattle.cpg_tree.specs.TreeNode.{TreeNode, Leaf, Fork}
use Rattle.cpg_tree.specs.declared.item.TreeItem.{TreeItem}
use Rattle.cpg_tree.specs.declared.item.TreeItem.TheVariants.{Value, Cut}
use Rattle.cpg_tree.specs.Flat.{flat}
use Rattle.cpg_tree.specs.Paths.{paths_from, up_to, above}
use Rattle.cpg_tree.specs.Tree.{Path}
use Rattle.cpg_tree_columns.specs.Columns.{column_of, columns_of_paths}
use Rattle.cpg_tree_columns.specs.Counted.{is_time}

-- the columns of two lists of paths are those of both
pub both_columns : (xs ys : List (Path (Option ℕ))) →
    columns_of_paths (xs ++ ys) ≡ columns_of_paths xs ++ columns_of_paths ys
both_columns xs ys = flat_map-append (λ (p : Path (Option ℕ)). column_of p.0 p.1) xs ys

-- how many items are leaves with a time
abbrev pub times_in : List (TreeItem (Option ℕ)) → ℕ
times_in items = length (filter is_time items)

-- two lists together have the times of both
times-append : (xs ys : List (TreeItem (Option ℕ))) → times_in (xs ++ ys) ≡ times_in xs + times_in ys
times-append xs ys = ap length (filter-append is_time xs ys) ∙ length-append (filter is_time xs) (filter is_time ys)

-- a tree has as many columns as its list has leaves with a time
pub times_are : (n : TreeNode (Option ℕ)) (k : ℕ) (cube : List Literal) →
    times_in (flat n) ≡ length (columns_of_paths (paths_from k cube n))
-- by induction on the tree: a leaf has one column or none, and a fork those of both sides, since the cut itself is no
-- time
times_are (Leaf (Some time)) k cube = refl
times_are (Leaf None) k cube = refl
times_are (Fork v cut x y) k cube =
    let xs = paths_from k (narrowed_by (up_to v cut) cube) x in
    let ys = paths_from k (narrowed_by (above k v cut) cube) y in
    let last : List (TreeItem (Option ℕ)) = Cut v cut (length (flat x)) ∷ [] in
    let count : times_in (flat x ++ flat y ++ last) ≡ times_in (flat x) + times_in (flat y) =
    times-append (flat x ++ flat y) last ∙ omega (arith, times-append (flat x) (flat y)) in
    count ∙ omega (
      arith,
      times_are x k (narrowed_by (up_to v cut) cube),
      times_are y k (narrowed_by (above k v cut) cube),
      ap length (both_columns xs ys),
      length-append (columns_of_paths xs) (columns_of_paths ys),
    )
