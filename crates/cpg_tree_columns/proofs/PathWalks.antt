-- What a walk down a tree makes of the columns, one after another, and how it keeps the cube of its path.
use Rattle.std.proofs.Common.{ℕ, ◌+◌, ◌≡◌, List, [], ◌++◌, Option, Some, None, sym, ap, ap₂, ◌∙◌}
use Rattle.std.specs.List.{flat_map}
use Rattle.std.proofs.lemmas.List.{append-nil}
use Rattle.std.proofs.lemmas.List.Concat.{flat_map-append}
use Rattle.cpg_base.specs.Variable.{top}
use Rattle.cpg_cube.specs.declared.column.Column.{Column}
use Rattle.cpg_cube.specs.declared.cube.Narrowing.{Narrowing}
use Rattle.cpg_cube.specs.declared.literal.Literal.{Literal}
use Rattle.cpg_cube.specs.Narrow.{narrowed_by}
use Rattle.cpg_cube.specs.Undo.{IsUndo, restored}
use Rattle.cpg_tree.specs.Flat.{flat}
use Rattle.cpg_tree.specs.Paths.{above, paths_from, up_to}
use Rattle.cpg_tree.specs.TreeNode.{TreeNode, Leaf, Fork}
use Rattle.cpg_tree.specs.declared.item.TreeItem.{TreeItem}
use Rattle.cpg_tree.proofs.Flats.{flat-same}
use Rattle.cpg_tree_columns.specs.Columns.{columns_of_paths}
use Rattle.cpg_tree_columns.proofs.CountedTimes.{both_columns}

-- what f makes of the columns of a tree that is entered with a cube, one after another
abbrev pub pieces_from : {X : Type 0} → (Column → List X) → ℕ → List Literal → TreeNode (Option ℕ) → List X
pieces_from f k cube n = flat_map f (columns_of_paths (paths_from k cube n))

-- given: what is made of a column, and a list of items that is that of a tree n
module _ {X : Type 0} (f : Column → List X) (k : ℕ) (cube : List Literal) (items : List (TreeItem (Option ℕ)))
    (n : TreeNode (Option ℕ)) (are : items ≡ flat n) where
  -- a leaf without a time has no column
  pub no_piece : items ≡ flat (Leaf None) → [] ≡ pieces_from f k cube n
  no_piece is = ap (pieces_from f k cube) (flat-same (Leaf None) n (sym is ∙ are))

  -- a leaf with a time has one column, whose cube is that of the path
  pub one_piece : (time : ℕ) → items ≡ flat (Leaf (Some time)) →
      (let c : Column = record { time = time; cube = cube } in f c) ≡ pieces_from f k cube n
  one_piece time is =
      let c : Column = record { time = time; cube = cube } in
      sym (append-nil (f c)) ∙ ap (pieces_from f k cube) (flat-same (Leaf (Some time)) n (sym is ∙ are))

  -- a fork has the columns of its side below and then those of its side above
  pub both_pieces : (v cut : ℕ) (x y : TreeNode (Option ℕ)) → items ≡ flat (Fork v cut x y) →
      pieces_from f k (narrowed_by (up_to v cut) cube) x ++ pieces_from f k (narrowed_by (above k v cut) cube) y
      ≡ pieces_from f k cube n
  both_pieces v cut x y is =
      let xs = paths_from k (narrowed_by (up_to v cut) cube) x in
      let ys = paths_from k (narrowed_by (above k v cut) cube) y in
      sym (ap (flat_map f) (both_columns xs ys) ∙ flat_map-append f (columns_of_paths xs) (columns_of_paths ys))
      ∙ ap (pieces_from f k cube) (flat-same (Fork v cut x y) n (sym is ∙ are))

-- ---- the cube of a path on the way

-- The path was narrowed by a step to `first`, and the walk below has left it so (`second`). With the step's literal
-- exchanged for that of the numbers above the cut (`third`), it is the path of the side above.
pub above_back : (k v cut most : ℕ) → most ≡ top k v → (s : Narrowing) (old first second third : List Literal) →
    IsUndo s first old → second ≡ first →
    (l : Literal) →
    (let m : Literal = record { variable = v; low = cut + 1; high = most } in l ≡ m) →
    third ≡ narrowed_by l (restored s second) →
    third ≡ narrowed_by (above k v cut) old
-- the literal is that of the side above, as `most` is the top, and what the step restores is the old path
above_back k v cut most whole s old first second third undo kept l e is = is ∙ ap₂ narrowed_by
    (e ∙ ap (λ (h : ℕ). let m : Literal = record { variable = v; low = cut + 1; high = h } in m) whole)
    (ap (restored s) kept ∙ undo.back)
