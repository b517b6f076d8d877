-- The demands of a tree's columns without a list of them: the time of each, with how much it asks, which is the sum of
-- the lows of its literals as a byte. If forks stand along an order, those on one variable follow each other, so the
-- low of the last variable alone has to be kept on the way down.
use Rattle.std.specs.Prelude.{ℕ, ◌+◌, ◌-◌, ◌*◌, ◌^◌, ◌%◌, ◌==◌, nat_lt, max, if◌then◌else◌, List, [], ◌∷◌, ◌++◌}
use Rattle.std.specs.Prelude.{Option, Some, None, get_or}
use Rattle.cpg_tree.specs.TreeNode.{TreeNode, Leaf, Fork}
use Rattle.cpg_tree_columns.specs.declared.demanding.ForkSide.{ForkSide}
use Rattle.cpg_tree_columns.specs.declared.demanding.BothSides.{BothSides}

-- what is known where the tree is entered: all 256 places of the order are left, and nothing is asked
abbrev pub first_side : ForkSide
first_side = record { left = 256; low = 0; asked = 0 }

-- the low of a fork's variable on the way to the fork: that of the last fork if it is on the same variable, so has as
-- many places left, and 0 otherwise
abbrev pub low_so_far : ForkSide → ℕ → ℕ
low_so_far side left = if left == side.left then side.low else 0

-- what is known below a fork at which `left` places are left: the low of its variable and what is asked stay
abbrev pub side_below : ForkSide → ℕ → ForkSide
side_below side left = record { left = left; low = low_so_far side left; asked = side.asked }

-- the low of a fork's variable above the fork
abbrev pub low_above : ForkSide → ℕ → ℕ → ℕ
low_above side left cut = max (low_so_far side left) (cut + 1)

-- What is known above a fork: the low is past the cut, and the column asks for as much more. What is asked counts
-- modulo 256.
abbrev pub side_above : ForkSide → ℕ → ℕ → ForkSide
side_above side left cut = record {
  left = left;
  low = low_above side left cut;
  asked = (side.asked + (low_above side left cut - low_so_far side left) % 256) % 256;
}

-- what is known on both sides of a fork
abbrev pub both_sides : ForkSide → ℕ → ℕ → BothSides
both_sides side left cut = record { below = side_below side left; above = side_above side left cut }

-- what is known on both sides of a fork that stands along the order; None if it doesn't: `left`, the places that are
-- left at its variable, is 0 or more than at the last fork
abbrev pub sides_of : ForkSide → ℕ → ℕ → Option BothSides
sides_of side left cut = if left == 0 then None else
    if nat_lt side.left left then None else Some (both_sides side left cut)

-- the demand of a leaf: none if it has no time, else the time times 256 plus what is asked, in 64 bits
abbrev pub demands_at : Option ℕ → ℕ → List ℕ
demands_at None asked = []
demands_at (Some time) asked = ((time * 256 % 2 ^ 64 + asked) % 2 ^ 64) ∷ []

-- The demands of a tree's leaves from right to left. `places` has how many places are left at each variable, and
-- `side` what is known where the tree is entered.
abbrev pub demands_by : List ℕ → ForkSide → TreeNode (Option ℕ) → List ℕ
demands_by places side (Leaf x) = demands_at x side.asked
demands_by places side (Fork v cut below above) =
    demands_by places (side_above side (get_or places v 0) cut) above
    ++ demands_by places (side_below side (get_or places v 0)) below
