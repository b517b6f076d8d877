-- The bytes of the columns that a tree has below a path, and what a sink took of bytes that equal them.
use Rattle.std.proofs.Common.{ℕ, ◌≡◌, List, ◌++◌, Option, Result, Err, All, sym, ◌∙◌, subst}
use Rattle.cpg_codec.specs.Spelling.{column_bytes}
use Rattle.cpg_codec.specs.Writing.{IsPut, Puts}
use Rattle.cpg_codec.proofs.Puts.{Puts-failed}
use Rattle.cpg_codec.proofs.Short.{All-parts}
use Rattle.cpg_cube.specs.declared.literal.Literal.{Literal}
use Rattle.cpg_cube.specs.declared.column.Column.{Column}
use Rattle.cpg_cube.specs.Narrow.{narrowed_by}
use Rattle.cpg_io.specs.Sink.{TookPrefix}
use Rattle.cpg_table.specs.Valid.{later_by}
use Rattle.cpg_tree.specs.Flat.{flat}
use Rattle.cpg_tree.specs.Paths.{above, paths_from, up_to}
use Rattle.cpg_tree.specs.TreeNode.{TreeNode, Fork}
use Rattle.cpg_tree.specs.declared.item.TreeItem.{TreeItem}
use Rattle.cpg_tree.proofs.Flats.{flat-same}
use Rattle.cpg_tree_columns.specs.Columns.{columns_of_paths}
use Rattle.cpg_tree_columns.proofs.CountedTimes.{both_columns}
use Rattle.cpg_tree_columns.proofs.PathWalks.{pieces_from}
use Rattle.cpg_packing.specs.Packable.{IsPackable}

-- a call that failed (`r`) after a proper prefix of bytes `x` failed so for equal bytes `y`; the sink took `b` in all,
-- `a` before, and the buffer held `h`
pub puts_failed_as : {E : Type 0} (a b h m x y : List ℕ) (r : Result Unit E) (e : E) → r ≡ Err e → x ≡ y →
    TookPrefix a b (h ++ x) →
    Puts a b h m r y
puts_failed_as a b h m x y r e is same prefix = subst (Puts a b h m r) same (Puts-failed a b h m x r e is prefix)

-- bytes `x` that are put are put as equal bytes `y`
pub is_put_as : (a b h l x y : List ℕ) → x ≡ y → IsPut a b h l x → IsPut a b h l y
is_put_as a b h l x y same put = subst (IsPut a b h l) same put

-- a proper prefix of bytes `x`, after the buffer's `h`, that the sink took is one of equal bytes `y`
pub took_as : (a b h x y : List ℕ) → x ≡ y → TookPrefix a b (h ++ x) → TookPrefix a b (h ++ y)
took_as a b h x y same prefix = subst (λ (bytes : List ℕ). TookPrefix a b (h ++ bytes)) same prefix

-- the bytes of a column, later by a delay
abbrev pub delayed : ℕ → Column → List ℕ
delayed delay c = column_bytes (later_by delay c)

-- the bytes of the columns that a tree has below a path, each later by a delay
abbrev pub bytes_from : ℕ → ℕ → List Literal → TreeNode (Option ℕ) → List ℕ
bytes_from k delay cube n = pieces_from (delayed delay) k cube n

-- the columns that a tree has below a path fit the fields of a pack
abbrev pub ArePackable : ℕ → List Literal → TreeNode (Option ℕ) → Type 0
ArePackable k cube n = All IsPackable (columns_of_paths (paths_from k cube n))

-- if the columns of a fork of variable `v` at `cut` fit, so do those of its sides `x` and `y`, below the path that is
-- narrowed to each: they are the columns of the fork in two parts
pub packable_sides : (k : ℕ) (cube : List Literal) (v cut : ℕ) (x y : TreeNode (Option ℕ)) →
    ArePackable k cube (Fork v cut x y) →
    ArePackable k (narrowed_by (up_to v cut) cube) x × ArePackable k (narrowed_by (above k v cut) cube) y
packable_sides k cube v cut x y all =
    let xs = columns_of_paths (paths_from k (narrowed_by (up_to v cut) cube) x) in
    let ys = columns_of_paths (paths_from k (narrowed_by (above k v cut) cube) y) in
    All-parts IsPackable xs ys (subst (All IsPackable) (both_columns (paths_from k (narrowed_by (up_to v cut) cube) x)
    (paths_from k (narrowed_by (above k v cut) cube) y)) all)

-- if the columns of the side `x` fit below `cube`, so do those of any tree `n` that has the same items, below `path`,
-- which is equal to `cube`
pub packable_side : (k : ℕ) (items : List (TreeItem (Option ℕ))) (x n : TreeNode (Option ℕ))
    (cube path : List Literal) → items ≡ flat x → path ≡ cube → ArePackable k cube x →
    items ≡ flat n →
    ArePackable k path n
packable_side k items x n cube path is same all are =
    subst (λ m. ArePackable k path m) (flat-same x n (sym is ∙ are)) (subst (λ c. ArePackable k c x) (sym same) all)
