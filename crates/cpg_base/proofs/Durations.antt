-- An execution within the limits is short.
use Rattle.std.proofs.Common.{ℕ, ◌+◌, ◌*◌, ◌^◌, ◌<◌, ◌≤◌, ◌≡◌, suc, suc-mul, inl, inr, arith}
use Rattle.std.proofs.Math.Nat.{mul-le-mul, mul-le-mul_left, mul-le-mul_right}
use Rattle.std.proofs.lemmas.Grind.{div_ceil_times}
use Rattle.std.proofs.lemmas.Bool.{cases_lt}
use Rattle.std.specs.Int.{div_ceil}
use Rattle.cpg_base.specs.Graph.{Graph, process_count, process_at}
use Rattle.cpg_base.specs.Duration.{duration}
use Rattle.cpg_base.specs.Limits.{IsProcessWithin, IsWithinLimits}

-- the product of two numbers is at most that of their bounds
pub product_within : (a b m n : ℕ) → a ≤ m → b ≤ n → a * b ≤ m * n
product_within a b m n a_le b_le = mul-le-mul a_le b_le

-- A part of a work is no longer than the work.
-- Were it longer, all parts together would be longer than the work and one part less a unit.
pub part_within : (work parts : ℕ) → 1 ≤ parts → div_ceil work parts ≤ work
part_within work parts some = elim (cases_lt work (div_ceil work parts)) [
  | inl longer ↦
      let whole = (div_ceil_times work parts some).1 in
      let more : suc work * parts ≤ div_ceil work parts * parts = mul-le-mul_right parts longer in
      let split : suc work * parts ≡ work * parts + parts = suc-mul work parts in
      let least : work * 1 ≤ work * parts = mul-le-mul_left work some in
      absurd (omega arith)
  | inr no_longer ↦ no_longer
]

-- An execution in a graph within the limits takes less than 2 ^ 40.
-- Work of at most 10^9, at most 255 parts of 2 * 10^9, and 8 faults of 3 * 10^9.
pub duration_short : (g : Graph) → IsWithinLimits g → (p f : ℕ) → p < process_count g → f ≤ g.faults →
    duration g p f < 2 ^ 40
duration_short g within p f inside few =
    let at : IsProcessWithin _ (process_at g p) = within.processes p _ inside in
    let checks = product_within (process_at g p).parts
    ((process_at g p).alpha + (process_at g p).chi) 255 2000000000 at.parts (omega arith) in
    let part = part_within (process_at g p).wcet (process_at g p).parts at.divided in
    let again = product_within f ((process_at g p).mu + div_ceil (process_at g p).wcet (process_at g p).parts
    + (process_at g p).alpha) 8 3000000000 (omega (arith, within.faults)) (omega arith) in
    omega arith
