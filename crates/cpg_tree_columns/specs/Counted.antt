-- Which items of a tree's list are times. A tree is a list of items: values, which are the leaves from left to right,
-- and cuts, which are the forks.
use Rattle.std.specs.Prelude.{ℕ, Bool, true, false, Option, Some, None}
use Rattle.cpg_tree.specs.declared.item.TreeItem.{TreeItem}
use Rattle.cpg_tree.specs.declared.item.TreeItem.TheVariants.{Value, Cut}

-- whether the item is a value that is a time
abbrev pub is_time : TreeItem (Option ℕ) → Bool
is_time (Value (Some time)) = true
is_time (Value None) = false
is_time (Cut v cut below) = false

-- the number of the item, if it is a value with one; a time is such a number
abbrev pub leaf_number : TreeItem (Option ℕ) → Option ℕ
leaf_number (Value number) = number
leaf_number (Cut v cut below) = None
