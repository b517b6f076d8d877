-- Proof of `Problem::round`: the length of a round of the bus, in time units: of all slots together.
use Rattle.std.proofs.Common.{◌≡◌, ap, arith}
use Rattle.std.specs.List.{sum_by}
use Rattle.std.proofs.lemmas.List.Sums.{sum_by-le}
use Rattle.cpg_base.specs.Graph.{Slot}
use Rattle.cpg_base.proofs.problem.Problem.round.Goals as goal

-- the sum doesn't overflow: there are at most 16 slots, each of at most 10^9 time units
pub round_of-requires : goal.round_of-requires
round_of-requires c =
    let within = c.self.invariant.0 in
    let same : sum_by (λ (s : Slot). s.length) c.as_slice.result.now
    ≡ sum_by (λ (s : Slot). s.length) c.self.inside.slots.items =
    ap (sum_by (λ (s : Slot). s.length)) c.as_slice.ensures.value in
    omega (
      arith,
      same,
      sum_by-le (λ (s : Slot). s.length) 1000000000 c.self.inside.slots.items
          (λ k d inside. (within.slots k d inside).length),
      within.few_slots,
    )
