-- How long executions and rounds can be in a graph within the limits.
use Rattle.std.proofs.Common.{ℕ, ◌+◌, ◌*◌, ◌<◌, ◌≤◌, ◌≡◌, length, arith, ap, inl, inr}
use Rattle.std.proofs.lemmas.Bool.{cases_lt}
use Rattle.std.proofs.lemmas.List.{get_or_past}
use Rattle.std.specs.Int.{div_ceil}
use Rattle.std.proofs.lemmas.List.Sums.{sum_by-le, get_or-le-sum_by}
use Rattle.cpg_base.specs.Graph.{Graph, Process, Slot, process_count, process_at}
use Rattle.cpg_base.specs.Bus.{round, slot_place, slot_length}
use Rattle.cpg_base.specs.Duration.{duration_of, duration}
use Rattle.cpg_base.specs.Limits.{IsProcessWithin, IsWithinLimits}
use Rattle.cpg_base.proofs.Durations.{product_within, part_within}

-- the round of a graph within the limits is at most 16000000000
pub round-le : (g : Graph) → IsWithinLimits g → round g ≤ 16000000000
round-le g within = omega (
  arith,
  sum_by-le (λ (s : Slot). s.length) 1000000000 g.slots (λ k d l. (within.slots k d l).length),
  within.few_slots,
)

-- a slot is no longer than the round
pub slot_length-le : (g : Graph) (node : ℕ) → slot_length g node ≤ round g
slot_length-le g node = elim (cases_lt (slot_place g node) (length g.slots)) [
  | inl inside ↦ get_or-le-sum_by (λ (s : Slot). s.length) g.slots (slot_place g node) _ inside
  | inr past ↦ let is_zero : slot_length g node ≡ 0 =
      ap (λ (s : Slot). s.length) (get_or_past g.slots (slot_place g node) _ past) in
      omega arith
]

-- An execution of a process within the limits takes at most 600000000000: work of at most 10^9, at most 255 parts of
-- 2 * 10^9 and 8 faults of 3 * 10^9 make 535 * 10^9.
pub duration_of-le : (nodes : ℕ) (p : Process) (f : ℕ) → IsProcessWithin nodes p → f ≤ 8 →
    duration_of p f ≤ 600000000000
duration_of-le nodes p f within few =
    let checks = product_within p.parts (p.alpha + p.chi) 255 2000000000 within.parts
    (omega (arith, within.alpha, within.chi)) in
    let part = part_within p.wcet p.parts within.divided in
    let again = product_within f (p.mu + div_ceil p.wcet p.parts + p.alpha) 8 3000000000 few
    (omega (arith, within.mu, within.alpha, within.wcet)) in
    omega (arith, within.wcet)

-- an execution of a process of a graph within the limits takes at most as long
pub duration-le : (g : Graph) (p f : ℕ) → IsWithinLimits g → p < process_count g → f ≤ 8 → duration g p f ≤ 600000000000
duration-le g p f within inside few =
    duration_of-le (length g.nodes) (process_at g p) f (within.processes p _ inside) few
