-- The greatest time of each tree, its top, and the bar: the greatest top. A tree whose top is under the bar can't have
-- the peak.
use Rattle.std.specs.Prelude.{ℕ, ◌≡◌, ◌≤◌, ◌<◌, nat_le, Bool, false, List, Option, Some, None, All, get_or, length, map}
use Rattle.std.specs.Prelude.{unwrap_or}
use Rattle.cpg_base.specs.Graph.{Graph, process_count}
use Rattle.cpg_base.specs.Duration.{due}
use Rattle.cpg_base.specs.Numbers.{greatest, numbers_below}
use Rattle.cpg_base.specs.Scenario.{Scenario, IsScenario}
use Rattle.cpg_tree_columns.specs.Greatest.{IsGreatestNumber}
use Rattle.cpg_tree.specs.Tree.{TreeState}
use Rattle.cpg_tree_columns.specs.Past.{time_past}

-- ---- of trees

-- the greatest number of the tree's values; `None` if no path has a number
abbrev pub IsTopOf : TreeState (Option ℕ) → Option ℕ → Type 0
IsTopOf t None = All (λ p. p.1 ≡ None) t.paths
IsTopOf t (Some most) = IsGreatestNumber t most

-- `tops` has the greatest number of each of the first n trees; a tree d is read where there is none, which doesn't
-- happen
pub record AreTops (trees : List (TreeState (Option ℕ))) (n : ℕ) (tops : List (Option ℕ)) : Type 0 where
  -- there is an entry for each of the n trees
  pub count : length tops ≡ n
  -- entry q is the greatest number of tree q, or `None` if it has none
  pub each : (q : ℕ) (d : TreeState (Option ℕ)) → q < n → IsTopOf (get_or trees q d) (get_or tops q None)

-- for each process, how far its greatest end is past its due; `None` if it has no end or isn't past the due
abbrev pub past_tops : Graph → List (Option ℕ) → List (Option ℕ)
past_tops g tops = map (λ q. time_past (due g q) (get_or tops q None)) (numbers_below (process_count g))

-- the greatest of the tops; a missing one counts as 0
abbrev pub bar_of : List (Option ℕ) → ℕ
bar_of tops = greatest (map (λ o. unwrap_or o 0) tops)

-- whether there is a top, and it isn't under the bar
abbrev pub reaches : ℕ → Option ℕ → Bool
reaches bar None = false
reaches bar (Some top) = nat_le bar top

-- ---- of what processes have in scenarios

-- some scenario has the time `top`, and none has a greater one
pub record IsTopAt (g : Graph) (has : ℕ → Scenario → Type 0) (top : ℕ) : Type 0 where
  -- no scenario of the graph has a greater time
  pub above : (time : ℕ) (s : Scenario) → IsScenario g s → has time s → time ≤ top
  -- a scenario of the graph that has it
  pub scenario : Scenario
  pub lawful : IsScenario g scenario
  pub there : has top scenario

-- the greatest time that a scenario has; `None` if no scenario has one
abbrev pub IsTop : Graph → (ℕ → Scenario → Type 0) → Option ℕ → Type 0
IsTop g has None = (time : ℕ) (s : Scenario) → IsScenario g s → has time s → ⊥
IsTop g has (Some top) = IsTopAt g has top

-- the list has, for each of the processes 0 .. n - 1, the greatest time that it has in a scenario, or `None` if it has
-- none
abbrev pub HasTops : Graph → ℕ → (ℕ → ℕ → Scenario → Type 0) → List (Option ℕ) → Type 0
HasTops g n has tops = (q : ℕ) → q < n → IsTop g (has q) (get_or tops q None)

-- process q has the time in scenario s, and the time isn't under the bar
pub record HasFrom (bar : ℕ) (has : ℕ → ℕ → Scenario → Type 0) (q time : ℕ) (s : Scenario) : Type 0 where
  -- the time isn't under the bar
  pub from : bar ≤ time
  -- q has it
  pub is : has q time s
