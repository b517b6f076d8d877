-- How the duration of an execution depends on its faults, and how many these may be.
use Rattle.std.proofs.Common.{ℕ, ◌+◌, ◌*◌, ◌<◌, ◌≤◌, arith, inl}
use Rattle.std.specs.Int.{div_ceil}
use Rattle.std.proofs.Math.Nat.{mul-le-mul_right}
use Rattle.cpg_base.specs.Graph.{Graph, process_count, process_at}
use Rattle.cpg_base.specs.Duration.{duration}
use Rattle.cpg_base.specs.Scenario.{Scenario, IsScenario, fault_of}
use Rattle.cpg_base.proofs.NumbersOf.{number_of-fault}
use Rattle.cpg_cube.proofs.Boxes.{number_within, top_of_count}

-- an execution of process `p` with `n` faults, at least `m`, doesn't last shorter than with `m`: each fault adds the
-- same time
pub duration_grows : (g : Graph) (p m n : ℕ) → m ≤ n → duration g p m ≤ duration g p n
duration_grows g p m n more_faults =
    let more : m
    * ((process_at g p).mu + div_ceil (process_at g p).wcet (process_at g p).parts + (process_at g p).alpha) ≤ n *
    ((process_at g p).mu + div_ceil (process_at g p).wcet (process_at g p).parts + (process_at g p).alpha) =
    mul-le-mul_right
    ((process_at g p).mu + div_ceil (process_at g p).wcet (process_at g p).parts + (process_at g p).alpha)
    more_faults in
    omega arith

-- in a scenario `s` of a graph, process `p` has at most as many faults as the graph allows
pub fault_within : (g : Graph) → process_count g ≤ 128 → (p : ℕ) → p < process_count g → (s : Scenario) →
    IsScenario g s →
    fault_of s p ≤ g.faults
fault_within g few p is_process s lawful = omega (
  arith,
  number_within g few s lawful p (inl is_process),
  number_of-fault s p (omega (arith, few, is_process)),
  top_of_count g.faults p (omega (arith, few, is_process)),
)
