-- What cubes leave of a space once their scenarios are taken off it.
use Rattle.std.specs.Prelude.{ℕ, ◌≡◌, ◌<◌, List, false, true, ⊤}
use Rattle.std.specs.Borrow.{Bor}
use Rattle.std.specs.List.{list_any}
use Rattle.cpg_base.specs.Graph.{Graph, IsVariable}
use Rattle.cpg_base.specs.Scenario.{Scenario}
use Rattle.cpg_cube.specs.Cube.{holds, matches}
use Rattle.cpg_cube.specs.declared.literal.Literal.{Literal}
use Rattle.cpg_tree.specs.Space.{IsInSpace}
use Rattle.cpg_tree.specs.declared.space.Space.{Space}
use Rattle.cpg_audit.specs.declared.narrowing.Extent.{Extent}
use Rattle.cpg_audit.specs.declared.narrowing.Extent.TheVariants.{Nowhere, Where, Unknown}

-- what an extent says of a cube in a space: it matches nowhere, or just where one literal holds; `Unknown` says nothing
abbrev pub IsExtent : Space → List Literal → Extent → Type 0
IsExtent space ls Nowhere = (s : Scenario) → IsInSpace space s → matches ls s ≡ false
IsExtent space ls (Where l) = (s : Scenario) → IsInSpace space s → matches ls s ≡ holds s l
IsExtent space ls Unknown = ⊤

-- scenario `s` lies in the space, unless a cube of `kept` matches it
abbrev pub Leaves : Space → List (Bor (List Literal)) → Scenario → Type 0
Leaves space kept s = list_any (λ b. matches b.now s) kept ≡ false → IsInSpace space s

-- literal `l` is on a variable of the graph below `bound`, and holds in all scenarios of a space
pub record IsRange (g : Graph) (space : Space) (bound : ℕ) (l : Literal) : Type 0 where
  -- the variable is one of the graph
  pub known : IsVariable g l.variable
  -- its number is below `bound`
  pub below : l.variable < bound
  -- the literal holds throughout the space
  pub told : (s : Scenario) → IsInSpace space s → holds s l ≡ true
