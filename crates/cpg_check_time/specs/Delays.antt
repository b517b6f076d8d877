-- Delays: how long what a column begins takes, an execution or a frame's slot.
use Rattle.std.specs.Prelude.{ℕ, ◌+◌, ◌<◌, ◌≤◌, ◌^◌, Bool, ◌&&◌, nat_lt, List}
use Rattle.cpg_base.specs.Duration.{duration}
use Rattle.cpg_base.specs.Graph.{Graph, process_count}
use Rattle.cpg_base.specs.Scenario.{Scenario, IsScenario, fault_of}
use Rattle.cpg_cube.specs.Cube.{matches}
use Rattle.cpg_cube.specs.declared.literal.Literal.{Literal}
use Rattle.cpg_cube.specs.declared.column.Column.{Column}
use Rattle.cpg_check_time.specs.declared.delays.Delay.{Delay}
use Rattle.cpg_check_time.specs.declared.delays.Delay.TheVariants.{Execution, Slot}

-- the process of an execution is one of the graph's, and a slot is shorter than 2^40
abbrev pub IsDelay : Graph → Delay → Type 0
IsDelay g (Execution p) = p < process_count g
IsDelay g (Slot length) = length < 2 ^ 40

-- when what begins at a time is done: an execution after its duration with the scenario's faults, a frame after a slot
abbrev pub done_at : Graph → Scenario → Delay → ℕ → ℕ
done_at g s (Execution p) time = time + duration g p (fault_of s p)
done_at g s (Slot length) time = time + length

-- what begins at any time is done at most `most` time units later, in every scenario
abbrev pub IsMost : Graph → Delay → ℕ → Type 0
IsMost g delay most = (s : Scenario) (time : ℕ) → IsScenario g s → done_at g s delay time ≤ time + most

-- whether column `d` matches, and what it begins is done only after `time`
abbrev pub is_late : Graph → Delay → ℕ → Column → Scenario → Bool
is_late g delay time d s = matches d.cube s && nat_lt time (done_at g s delay d.time)

-- whether a cube matches, and column `d` is late in the same scenario
abbrev pub delays : Graph → List Literal → Delay → ℕ → Column → Scenario → Bool
delays g cube delay time d s = matches cube s && is_late g delay time d s
