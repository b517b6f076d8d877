-- The best number of parts of a process: the least with which an execution with k faults is shortest.
use Rattle.std.specs.Prelude.{ℕ, ◌<◌, ◌≤◌, nat_lt, if◌then◌else◌, List, fold, map}
use Rattle.std.specs.List.{range_with_len}
use Rattle.cpg_base.specs.declared.limits.TheConstants.{MOST_PARTS}
use Rattle.cpg_base.specs.declared.process.Process.{Process}
use Rattle.cpg_base.specs.Graph.{Graph}
use Rattle.cpg_base.specs.Duration.{duration_of}

-- a process with another number of parts
abbrev pub in_parts : Process → ℕ → Process
in_parts p n = record p { parts = n }

-- how long an execution lasts with this many faults if it is cut into n parts
abbrev pub duration_in : Process → ℕ → ℕ → ℕ
duration_in p faults n = duration_of (in_parts p n) faults

-- n if an execution is shorter in n parts than in m, and otherwise m
abbrev pub shorter : Process → ℕ → ℕ → ℕ → ℕ
shorter p faults m n = if nat_lt (duration_in p faults n) (duration_in p faults m) then n else m

-- the least number of parts from 1 to 255 with which an execution with this many faults is shortest; `range_with_len 1 n`
-- is 1, 2, .. , n
unfoldable pub best_of : Process → ℕ → ℕ
best_of p faults = fold (shorter p faults) 1 (range_with_len 1 MOST_PARTS)

-- the best number of parts of each process, for an execution with all k faults
abbrev pub best_parts : Graph → List ℕ
best_parts g = map (λ p. best_of p g.faults) g.processes

-- n is the best number of parts of a process for this many faults
pub record IsBest (p : Process) (faults n : ℕ) : Type 0 where
  -- it is from 1 to 255
  pub some : 1 ≤ n
  pub few : n ≤ MOST_PARTS
  -- no other number of parts makes the execution shorter
  pub least : (m : ℕ) → 1 ≤ m → m ≤ MOST_PARTS → duration_in p faults n ≤ duration_in p faults m
  -- every lesser number of parts makes it longer
  pub first : (m : ℕ) → 1 ≤ m → m < n → duration_in p faults n < duration_in p faults m
