-- What callers see of a tree of places.
use Rattle.std.specs.Prelude.{ℕ, List, Option}
use Rattle.cpg_tree.specs.declared.item.TreeItem.{TreeItem}

-- the tree as a list of items; a leaf has the place that its scenarios come to, or None
pub record PlacesState : Type 0 where
  -- the items of the tree: those of a fork's sides, that below first, stand before the fork's own
  pub items : List (TreeItem (Option ℕ))
