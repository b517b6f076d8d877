-- A list to which a tree was added is no shorter, and a cut that is open in a space is open in it again when the space
-- is given back.
use Rattle.std.proofs.Common.{ℕ, ◌≡◌, ◌≤◌, List, ap, arith, length, length-append, subst, sym}
use Rattle.cpg_cube.specs.declared.literal.Literal.{Literal}
use Rattle.cpg_tree.specs.Flat.{flat}
use Rattle.cpg_tree.specs.declared.space.Space.{Space}
use Rattle.cpg_row_trees.specs.PlaceHints.{AddsPlaceTree, IsOpenCut}
use Rattle.cpg_row_trees.specs.Slices.{AddsSliceTree}
use Rattle.cpg_row_trees.specs.declared.places.TreeGrowth.{TreeGrowth}

-- the list to which the tree of a slice was added is no shorter
pub slice_longer : {cubes : List (List Literal)} {k : ℕ} {space : Space} {from to : ℕ} {old new : TreeGrowth} →
    AddsSliceTree cubes k space from to old new → length old.items.items ≤ length new.items.items
slice_longer {cubes} {k} {space} {from} {to} {old} added =
    omega (arith, ap length added.finds.1, length-append old.items.items (flat added.finds.0))

-- nor is the one to which the tree of places was added
pub places_longer : {cubes : List (List Literal)} {space : Space} {places : List ℕ} {old new : TreeGrowth} →
    AddsPlaceTree cubes space places old new → length old.items.items ≤ length new.items.items
places_longer {cubes} {space} {places} {old} added =
    omega (arith, ap length added.found.1, length-append old.items.items (flat added.found.0))

-- a cut that a space has open is open in the same space again
pub open_again : (space again : Space) (v cut : ℕ) → again ≡ space → IsOpenCut space v cut → IsOpenCut again v cut
open_again space again v cut back is = subst (λ (r : Space). IsOpenCut r v cut) (sym back) is
