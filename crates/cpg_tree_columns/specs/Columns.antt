-- The columns of a tree of times: one for each path that has a time.
use Rattle.std.specs.Prelude.{ℕ, ◌≡◌, ◌≤◌, ◌==◌, if◌then◌else◌, true, false, Option, None, Some, List, [], ◌∷◌, ◌++◌}
use Rattle.std.specs.Prelude.{All}
use Rattle.std.specs.List.{flat_map}
use Rattle.std.specs.Option.{option_map_or}
use Rattle.cpg_cube.specs.declared.literal.Literal.{Literal}
use Rattle.cpg_base.specs.Graph.{Graph}
use Rattle.cpg_cube.specs.declared.column.Column.{Column}
use Rattle.cpg_cube.specs.Cube.{is_whole}
use Rattle.cpg_base.specs.Variable.{top}
use Rattle.cpg_cube.specs.Fit.{IsCube, is_met}
use Rattle.cpg_cube.specs.Narrow.{with_literal}
use Rattle.cpg_tree.specs.TreeNode.{TreeNode, Leaf, Fork}
use Rattle.cpg_tree.specs.Paths.{up_to, above}
use Rattle.cpg_tree.specs.Tree.{Path}

-- the column of a path with this cube and value: none if the value is no time
abbrev pub column_of : List Literal → Option ℕ → List Column
column_of cube None = []
column_of cube (Some time) = record { time = time; cube = cube } ∷ []

-- the columns of the paths, in their order; `p.0` is the cube of a path, `p.1` its value
abbrev pub columns_of_paths : List (Path (Option ℕ)) → List Column
columns_of_paths paths = flat_map (λ (p : Path (Option ℕ)). column_of p.0 p.1) paths

-- The columns of a tree that is entered with a cube, as a walk from left to right finds them. Each fork narrows the
-- cube to the numbers up to its cut, and then to those above it; a side for which no number is left has no columns.
abbrev pub columns_from : ℕ → List Literal → TreeNode (Option ℕ) → List Column
columns_from k cube (Leaf x) = column_of cube x
columns_from k cube (Fork v cut below upper) =
    option_map_or (λ c. columns_from k c below) (with_literal (up_to v cut) cube) []
    ++ option_map_or (λ c. columns_from k c upper) (with_literal (above k v cut) cube) []

-- the cube of the first column with the time `wanted`, if there is one
abbrev pub first_with : ℕ → List Column → Option (List Literal)
first_with wanted [] = None
first_with wanted (c ∷ cs) = if c.time == wanted then Some c.cube else first_with wanted cs

-- a column in the form that trees list: its cube is one of the graph, and no literal says what holds anyway
pub record IsTidyColumn (g : Graph) (c : Column) : Type 0 where
  -- its literals are on variables of the graph, in rising order
  pub cube : IsCube g c.cube
  -- some scenario of at most k faults matches it
  pub met : is_met g.faults c.cube ≡ true
  -- no literal has the whole range of its variable
  pub not_whole : All (λ l. is_whole g.faults l ≡ false) c.cube
  -- none goes past the greatest number of its variable
  pub within : All (λ l. l.high ≤ top g.faults l.variable) c.cube
