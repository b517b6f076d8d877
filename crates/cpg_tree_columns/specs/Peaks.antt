-- Peaks: the greatest of the times that processes have in scenarios, the least scenario that has it, and the least
-- process that has it there. The times are ends, or how far ends are past their dues.
use Rattle.std.specs.Prelude.{ℕ, ◌≡◌, ◌==◌, ◌≤◌, ◌<◌, ◌⊎◌, nat_lt, Bool, true, List, Option, Some, None, All, get_or}
use Rattle.std.specs.Prelude.{if◌then◌else◌}
use Rattle.cpg_base.specs.Graph.{Graph, process_count}
use Rattle.cpg_base.specs.Duration.{due}
use Rattle.cpg_base.specs.Scenario.{zero_scenario, IsLeast, is_before, Scenario, IsScenario}
use Rattle.cpg_tree_columns.specs.Greatest.{HasValueAt, IsGreatestOf}
use Rattle.cpg_tree.specs.Tree.{Path, TreeState, IsOnPath, IsMap}
use Rattle.cpg_tree.specs.GraphTrees.{IsTree}
use Rattle.cpg_tree.specs.GraphTrees.{no_tree}
use Rattle.cpg_tree_columns.specs.Past.{time_past}
use Rattle.cpg_tree_columns.specs.declared.measuring.Peak.{Peak}

-- ---- what processes have in a scenario

-- the tree of process q's ends
abbrev pub tree_at : Graph → List (TreeState (Option ℕ)) → ℕ → TreeState (Option ℕ)
tree_at g trees q = get_or trees q (no_tree g.faults)

-- process q ends at this time in scenario s
abbrev pub EndsAt : Graph → List (TreeState (Option ℕ)) → ℕ → ℕ → Scenario → Type 0
EndsAt g trees q time s = HasValueAt (tree_at g trees q).paths (Some time) s

-- process q ends in scenario s past its due, by `excess`
abbrev pub EndsPast : Graph → List (TreeState (Option ℕ)) → ℕ → ℕ → Scenario → Type 0
EndsPast g trees q excess s = (end : ℕ) × EndsAt g trees q end s × (time_past (due g q) (Some end) ≡ Some excess)

-- ---- peaks

-- one of the processes 0 .. n - 1 has the time in scenario s; `has q time s` says that process q has it there
abbrev pub SomeHas : ℕ → (ℕ → ℕ → Scenario → Type 0) → ℕ → Scenario → Type 0
SomeHas n has time s = (q : ℕ) × (q < n) × has q time s

-- None of the processes 0 .. n - 1 has a time in any scenario. `has q time s` says that process q has the time in
-- scenario s.
pub record IsNoPeak (g : Graph) (n : ℕ) (has : ℕ → ℕ → Scenario → Type 0) (peak : Peak) : Type 0 where
  -- the peak is 0 then, in the scenario without faults whose values are all false
  pub time : peak.time ≡ 0
  pub scenario : peak.scenario ≡ zero_scenario g
  -- no process has a time
  pub none : (q time : ℕ) (s : Scenario) → q < n → IsScenario g s → has q time s → ⊥

-- The peak of the processes 0 .. n - 1: its time is the greatest, its scenario the least that has it, and p the least
-- process that has it there.
pub record IsPeakOf (g : Graph) (urgency : List ℕ) (n : ℕ) (has : ℕ → ℕ → Scenario → Type 0) (peak : Peak)
    (p : ℕ) : Type 0 where
  -- no process has a greater time
  pub most : (q time : ℕ) (s : Scenario) → q < n → IsScenario g s → has q time s → time ≤ peak.time
  -- the scenario is the first, along the urgency order, in which some process has it
  pub least : IsLeast g urgency (SomeHas n has peak.time) peak.scenario
  -- p has it there, and no process before p
  pub there : p < n
  pub is : has p peak.time peak.scenario
  pub first : (q : ℕ) → q < p → has q peak.time peak.scenario → ⊥

-- the peak has the process p, or none if no process has a time
abbrev pub IsPeakBy : Graph → List ℕ → ℕ → (ℕ → ℕ → Scenario → Type 0) → Peak → Option ℕ → Type 0
IsPeakBy g urgency n has peak None = IsNoPeak g n has peak
IsPeakBy g urgency n has peak (Some p) = IsPeakOf g urgency n has peak p

-- the peak of the processes 0 .. n - 1; its own field says whether it has a process
abbrev pub IsPeak : Graph → List ℕ → ℕ → (ℕ → ℕ → Scenario → Type 0) → Peak → Type 0
IsPeak g urgency n has peak = IsPeakBy g urgency n has peak peak.process

-- ---- one process more

-- Whether a time that a later process first has in scenario s takes the place of the peak. It does if the peak has no
-- process, if the time is greater, or if it is the same and s is the earlier scenario.
abbrev pub goes_before_by : Graph → List ℕ → Peak → ℕ → Scenario → Option ℕ → Bool
goes_before_by g urgency peak time s None = true
goes_before_by g urgency peak time s (Some p) = if peak.time == time then is_before g urgency s peak.scenario
    else nat_lt peak.time time

-- the same, with the peak's own process
abbrev pub goes_before : Graph → List ℕ → Peak → ℕ → Scenario → Bool
goes_before g urgency peak time s = goes_before_by g urgency peak time s peak.process

-- the peak after a later process p, which first has the time in scenario s: that time if it goes before, and the old
-- peak otherwise
abbrev pub or_time : Graph → List ℕ → Peak → ℕ → Scenario → ℕ → Peak
or_time g urgency peak time s p = if goes_before g urgency peak time s
    then record { time = time; scenario = s; process = Some p } else peak

-- process p has no time in any scenario, so the peak stays; `p.1` is the value of a path
pub record IsSamePeak (paths : List (Path (Option ℕ))) (old new : Peak) : Type 0 where
  -- no path has a time
  pub none : All (λ p. p.1 ≡ None) paths
  -- the peak stays
  pub same : new ≡ old

-- process p has a time in some scenario, so the greatest one is compared with the peak
pub record IsLaterPeak (g : Graph) (urgency : List ℕ) (paths : List (Path (Option ℕ))) (p : ℕ)
    (old new : Peak) : Type 0 where
  -- the greatest time of the paths, and the least scenario that has it
  pub time : ℕ
  pub scenario : Scenario
  pub greatest : IsGreatestOf g urgency paths time scenario
  -- it takes the place of the peak if it goes before it
  pub is : new ≡ or_time g urgency old time scenario p

-- the peak `new`, which also counts the times that process p has by these paths
abbrev pub IsNextPeak : Graph → List ℕ → List (Path (Option ℕ)) → ℕ → Peak → Peak → Type 0
IsNextPeak g urgency paths p old new = IsSamePeak paths old new ⊎ IsLaterPeak g urgency paths p old new

-- the peak `new`, which also counts how far the ends of process p are past its due
pub record IsNextExcess (g : Graph) (urgency : List ℕ) (end : TreeState (Option ℕ)) (p : ℕ)
    (old new : Peak) : Type 0 where
  -- how far each end is past the due, as a tree; no time where it isn't past it
  pub tree : TreeState (Option ℕ)
  pub of : IsTree g tree
  pub made : IsMap (λ x z. z ≡ time_past (due g p) x) end tree
  -- the peak that counts the times of that tree too
  pub next : IsNextPeak g urgency tree.paths p old new
