-- The paths of a decision tree: for each leaf the cube of the scenarios that come to it, and its value.
use Rattle.std.specs.Prelude.{ℕ, ◌+◌, List, [], ◌∷◌, ◌++◌}
use Rattle.cpg_cube.specs.declared.literal.Literal.{Literal}
use Rattle.cpg_base.specs.Variable.{top}
use Rattle.cpg_cube.specs.Narrow.{narrowed_by}
use Rattle.cpg_tree.specs.TreeNode.{TreeNode, Leaf, Fork}

-- the literal of the side below a fork: v is at most the cut
abbrev pub up_to : ℕ → ℕ → Literal
up_to v cut = record { variable = v; low = 0; high = cut }

-- the literal of the side above: v is greater than the cut, and at most what it can be with k faults
abbrev pub above : ℕ → ℕ → ℕ → Literal
above k v cut = record { variable = v; low = cut + 1; high = top k v }

-- the paths of a tree whose scenarios are all in a cube, from the lowest leaf up; each fork narrows the cube for its
-- sides
abbrev pub paths_from : {T : Type 0} → ℕ → List Literal → TreeNode T → List (List Literal × T)
paths_from k cube (Leaf x) = (cube, x) ∷ []
paths_from k cube (Fork v cut lower upper) =
    paths_from k (narrowed_by (up_to v cut) cube) lower ++ paths_from k (narrowed_by (above k v cut) cube) upper

-- the paths of a whole tree; the empty cube leaves every number
abbrev pub paths_of : {T : Type 0} → ℕ → TreeNode T → List (List Literal × T)
paths_of k node = paths_from k [] node
