-- The loop of `counts_by`: with which fault counts an execution has ended by a time.
use Rattle.std.proofs.Common.{ℕ, ◌+◌, ◌-◌, ◌<◌, ◌≤◌, ◌≡◌, arith, inl, inr, ◌∙◌, sym, le-leb, lt-ltb, le-ltb}
use Rattle.std.specs.Prelude.{nat_le, nat_lt}
use Rattle.std.proofs.lemmas.Bool.{cases_lt, lt-leb}
use Rattle.cpg_base.specs.Graph.{Graph}
use Rattle.cpg_base.specs.Duration.{duration}
use Rattle.cpg_violation.proofs.Durations.{duration_grows}

-- an execution of process `p` that starts at `start`, no later than `time`
module _ (g : Graph) (p start time : ℕ) (come : start ≤ time) where
  -- if `count` is the first with which it lasts too long, it has ended by the time exactly with the lower counts: with
  -- greater ones it lasts at least as long
  pub counts_here : (count : ℕ) → ((n : ℕ) → n < count → duration g p n ≤ time - start) →
      time - start < duration g p count
      → (n : ℕ) → n ≤ g.faults → nat_le (start + duration g p n) time ≡ nat_lt n count
  counts_here count before here n at_most = elim (cases_lt n count) [
    | inl less ↦ le-leb (start + duration g p n) time (omega (arith, before n less)) ∙ sym (lt-ltb n count less)
    | inr not_less ↦ let no_shorter = duration_grows g p count n not_less in
        lt-leb (start + duration g p n) time (omega (arith, no_shorter)) ∙ sym (le-ltb n count not_less)
  ]

  -- if the execution of process `p` lasts too long with none of the counts that there may be, it has ended by the time
  -- with each of them, `n`
  pub counts_all : ((n : ℕ) → n < g.faults + 1 → duration g p n ≤ time - start) → (n : ℕ) → n ≤ g.faults →
      nat_le (start + duration g p n) time ≡ nat_lt n (g.faults + 1)
  counts_all before n at_most = le-leb (start + duration g p n) time (omega (arith, before n (omega arith)))
      ∙ sym (lt-ltb n (g.faults + 1) (omega arith))
