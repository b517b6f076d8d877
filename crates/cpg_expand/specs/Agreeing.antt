-- What a tree says in one scenario: its value there (`path.1`) has a fact, and the literals of its path (`path.0`)
-- follow from given ones.
use Rattle.std.specs.Prelude.{◌≡◌, List}
use Rattle.cpg_base.specs.Scenario.{Scenario}
use Rattle.cpg_cube.specs.declared.literal.Literal.{Literal}
use Rattle.cpg_base.specs.Graph.{Graph}
use Rattle.cpg_tree.specs.Tree.{Path, TreeState, IsOnPath, HasOnePathEach, DoPathsPass}
use Rattle.cpg_tree.specs.Variables.{is_variable}
use Rattle.cpg_run.specs.Carrying.{ContainsKept}

-- The path of scenario s has a value with the fact, and its literals follow from the given ones. It holds of every
-- path that s is on; in a tree with one path for each scenario that is one path.
pub record Agrees {T : Type 0} (s : Scenario) (literals : List Literal) (fact : T → Type 0)
    (t : TreeState T) : Type 0 where
  -- the value of the path has the fact
  pub value : (x : Path T) → IsOnPath t.paths s x → fact x.1
  -- the path allows each fault count and value that the given literals allow
  pub says : (x : Path T) → IsOnPath t.paths s x → ContainsKept t.faults x.0 literals

-- In scenario s the tree has the value x, and the literals of its path follow from the given ones.
abbrev pub HasValueFrom : {T : Type 0} → Scenario → List Literal → T → TreeState T → Type 0
HasValueFrom s literals x t = Agrees s literals (λ y. y ≡ x) t
