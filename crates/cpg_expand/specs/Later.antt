-- Trees of times: those of another tree, with a delay or as they are; the later of two; and the starts that follow,
-- with a release. Each says in a scenario what follows from the literals of the trees that it is made of.
use Rattle.std.specs.Prelude.{ℕ, max, Bool, true, false, List, ◌++◌, Option, Some, None}
use Rattle.cpg_base.specs.Scenario.{Scenario}
use Rattle.cpg_cube.specs.declared.literal.Literal.{Literal}
use Rattle.cpg_tree.specs.Space.{HasAtMostFaults}
use Rattle.cpg_tree.specs.Tree.{TreeState}
use Rattle.cpg_expand.specs.Agreeing.{HasValueFrom}
use Rattle.cpg_tree.specs.Later.{time_later}

-- in scenarios of at most k faults, t has the times of `tree`, each `delay` later, and 0 where `tree` has none
abbrev pub IsLaterTree : ℕ → ℕ → TreeState (Option ℕ) → TreeState ℕ → Type 0
IsLaterTree k delay tree t =
    (s : Scenario) → HasAtMostFaults k s → (literals : List Literal) (x : Option ℕ) → HasValueFrom s literals x tree →
    HasValueFrom s literals (time_later delay x) t

-- in scenarios of at most k faults, t has the values of `tree`, and its paths say no more than those of `tree`
abbrev pub IsNoMore : ℕ → TreeState ℕ → TreeState ℕ → Type 0
IsNoMore k tree t = (s : Scenario) → HasAtMostFaults k s → (literals : List Literal) (x : ℕ) →
    HasValueFrom s literals x tree → HasValueFrom s literals x t

-- t has the later of the times of the trees a and b. In a scenario these are x and y, by the literals `by_a` and
-- `by_b`, and the path of t follows from both.
abbrev pub IsLatest : ℕ → TreeState ℕ → TreeState ℕ → TreeState ℕ → Type 0
IsLatest k a b t = (s : Scenario) → HasAtMostFaults k s → (by_a by_b : List Literal) (x y : ℕ) →
    HasValueFrom s by_a x a → HasValueFrom s by_b y b →
    HasValueFrom s (by_a ++ by_b) (max x y) t

-- t has the latest of the release and the times of the trees a and b. In a scenario these are x and y, by the literals
-- `by_a` and `by_b`, and the path of t follows from both.
abbrev pub IsReleased : ℕ → TreeState ℕ → TreeState ℕ → ℕ → TreeState (Option ℕ) → Type 0
IsReleased k a b release t = (s : Scenario) → HasAtMostFaults k s → (by_a by_b : List Literal) (x y : ℕ) →
    HasValueFrom s by_a x a → HasValueFrom s by_b y b →
    HasValueFrom s (by_a ++ by_b) (Some (max (max x y) release)) t

-- t has the latest of the release and the times of the trees a and b where the chooser is true, and no time where it is
-- false
pub record IsReleasedWhere (k : ℕ) (chooser : TreeState Bool) (a b : TreeState ℕ) (release : ℕ)
    (t : TreeState (Option ℕ)) : Type 0 where
  -- where the chooser is true, the path follows from its literals, `by_chooser`, and those of a and b
  pub on : (s : Scenario) → HasAtMostFaults k s → (by_chooser by_a by_b : List Literal) (x y : ℕ) →
      HasValueFrom s by_chooser true chooser →
      HasValueFrom s by_a x a →
      HasValueFrom s by_b y b → HasValueFrom s (by_chooser ++ (by_a ++ by_b)) (Some (max (max x y) release)) t
  -- where it is false, the path follows from `by_chooser` alone
  pub off : (s : Scenario) → HasAtMostFaults k s → (by_chooser : List Literal) → HasValueFrom s by_chooser false chooser →
      HasValueFrom s by_chooser None t
