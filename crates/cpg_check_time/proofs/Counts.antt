-- The least count of faults with which an execution ends after a time, and the cube narrowed to such counts.
use Rattle.std.proofs.Common.{ℕ, ◌+◌, ◌<◌, ◌≤◌, ◌≡◌, List, Option, Some, None, arith, sym, subst, inl, inr}
use Rattle.std.specs.Prelude.{IfSome}
use Rattle.std.proofs.lemmas.Bool.{cases_lt}
use Rattle.cpg_base.specs.Graph.{Graph, process_count, process_at}
use Rattle.cpg_base.specs.Duration.{duration}
use Rattle.cpg_base.specs.Limits.{IsWithinLimits}
use Rattle.cpg_cube.specs.declared.literal.Literal.{Literal}
use Rattle.cpg_cube.specs.Fit.{IsKnown}
use Rattle.cpg_cube.specs.Narrow.{with_literal}
use Rattle.cpg_cube.proofs.CubeLaws.{with-is}
use Rattle.cpg_cube.proofs.Narrow.{known-narrowed}
use Rattle.cpg_violation.proofs.Durations.{duration_grows}
use Rattle.cpg_check_time.specs.Lateness.{IsLeastCount}

-- every execution of process `p`, with however many faults `n`, takes at least one time unit
pub duration_some : (g : Graph) → IsWithinLimits g → (p n : ℕ) → p < process_count g → 1 ≤ duration g p n
duration_some g within p n is_process = let works : 1 ≤ (process_at g p).wcet =
    (within.processes p _ is_process).works in omega arith

-- if `f` is the first count with which the execution ends after the time, it is the least: with each greater count it
-- lasts at least as long
pub first_is_least : (g : Graph) (p start time f : ℕ) → ((n : ℕ) → n < f → start + duration g p n ≤ time) →
    time < start + duration g p f →
    IsLeastCount g p start time f
first_is_least g p start time f below here = λ n. (
  λ late. elim (cases_lt n f) [ inl less ↦ absurd (omega (arith, below n less)) | inr not_less ↦ not_less ],
  λ at_least. omega (arith, here, duration_grows g p f n at_least),
)

-- if a cube is on variables of the graph, so is what it is narrowed to by a range of the fault count of process `p`,
-- `o`
pub part_known : (g : Graph) (p : ℕ) → p < process_count g →
    (cube : List Literal) (low high : ℕ) (o : Option (List Literal)) →
    IsKnown g cube →
    o ≡ with_literal (record { variable = p; low = low; high = high }) cube → IfSome o (IsKnown g)
part_known g p is_process cube low high None known is = tt
part_known g p is_process cube low high (Some part) known is =
    let literal : Literal = record { variable = p; low = low; high = high } in
    subst (IsKnown g) (with-is literal cube part (sym is)) (known-narrowed g literal cube (inl is_process) known)
