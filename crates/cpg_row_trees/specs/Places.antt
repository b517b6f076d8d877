-- Trees that lead each scenario to the place of the one cube that it matches in a list, or to no place if it matches none.
use Rattle.std.specs.Prelude.{ℕ, ◌≡◌, ◌<◌, true, List, [], ◌∷◌, Option, None, Some, Contains, length, get_or}
use Rattle.cpg_base.specs.Scenario.{Scenario}
use Rattle.cpg_cube.specs.Cube.{matches}
use Rattle.cpg_cube.specs.declared.literal.Literal.{Literal}
use Rattle.cpg_tree.specs.TreeNode.{TreeNode}
use Rattle.cpg_tree.specs.declared.item.TreeItem.{TreeItem}
use Rattle.cpg_tree.specs.declared.item.TreeItem.TheVariants.{Value, Cut}
use Rattle.cpg_row_trees.specs.PlacesState.{PlacesState}
use Rattle.cpg_tree.specs.declared.space.Space.{Space}
use Rattle.cpg_tree.specs.Space.{IsInSpace}
use Rattle.cpg_tree.specs.Decision.{value_at}
use Rattle.cpg_tree.specs.ReadBack.{read_back}

-- the place that a scenario comes to in the topmost tree of a stack; None if the stack is empty
abbrev pub place_on : List (TreeNode (Option ℕ)) → Scenario → Option ℕ
place_on [] s = None
place_on (n ∷ stack) s = value_at n s

-- the place that a scenario comes to in a tree of places, or None if its leaf has none
abbrev pub place_at : PlacesState → Scenario → Option ℕ
place_at places s = place_on (read_back places.items []) s

-- the cube at place i; behind the last one, the cube without literals
abbrev pub cube_at : List (List Literal) → ℕ → List Literal
cube_at cubes i = get_or cubes i []

-- there is a cube at place i, and the scenario matches it
pub record IsMatched (cubes : List (List Literal)) (s : Scenario) (i : ℕ) : Type 0 where
  -- the place is one of the list
  pub there : i < length cubes
  -- the scenario matches the cube there
  pub matched : matches (cube_at cubes i) s ≡ true

-- the answer is the place of the one cube that the scenario matches, or None if it matches no cube
abbrev pub IsPlaceOfMatch : List (List Literal) → Option ℕ → Scenario → Type 0
IsPlaceOfMatch cubes None s = (j : ℕ) → IsMatched cubes s j → ⊥
IsPlaceOfMatch cubes (Some i) s = IsMatched cubes s i × ((j : ℕ) → IsMatched cubes s j → j ≡ i)

-- in each scenario of the space, the fact holds of the value that the tree a has there
abbrev pub HoldsInSpace : {T : Type 0} → (T → Scenario → Type 0) → Space → TreeNode T → Type 0
HoldsInSpace fact space a = (s : Scenario) → IsInSpace space s → fact (value_at a s) s

-- there is a place, and it is one of these
abbrev pub IsAmong : List ℕ → Option ℕ → Type 0
IsAmong places None = ⊥
IsAmong places (Some i) = Contains places i

-- the item isn't a leaf without a place
abbrev pub IsThere : TreeItem (Option ℕ) → Type 0
IsThere (Value None) = ⊥
IsThere (Value (Some i)) = Unit {0}
IsThere (Cut v cut below) = Unit {0}
