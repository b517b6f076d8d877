-- Executions that end after a time.
use Rattle.std.specs.Prelude.{ℕ, ◌+◌, ◌<◌, ◌≤◌, ◌↔◌, Bool, nat_lt}
use Rattle.cpg_base.specs.Duration.{duration}
use Rattle.cpg_base.specs.Graph.{Graph}
use Rattle.cpg_base.specs.Scenario.{Scenario, fault_of}

-- whether an execution of process `p` that starts at `start` ends after `time` in a scenario
abbrev pub ends_after : Graph → ℕ → ℕ → ℕ → Scenario → Bool
ends_after g p start time s = nat_lt time (start + duration g p (fault_of s p))

-- an execution of process `p` that starts at `start` ends after `time` exactly if it has `count` faults or more
abbrev pub IsLeastCount : Graph → ℕ → ℕ → ℕ → ℕ → Type 0
IsLeastCount g p start time count = (n : ℕ) → (time < start + duration g p n) ↔ (count ≤ n)
