-- Loops of `compile_answers`, which returns the answers for an admitted graph with each fault number from 0 to 8.
use Rattle.std.proofs.Common.{ℕ, ◌≡◌}
use Rattle.cpg_rules.specs.Admission.{IsAdmitted}
use Rattle.cpg_rules.specs.FaultNumber.{with_fault_number}
use Rattle.cpg_tune.specs.Tuned.{AreAnswers}
use Rattle.cpg_app.specs.Tunes.{IsJudged}
use Rattle.cpg_app.proofs.tuning.compile_answers.Given as goal

-- `same`: with one fault number, the graph of `varied` and the given one are the same. `answers`: so far there is the
-- answer for each fault number below this one.
abbrev pub invariant-loop-faults : goal.invariant-loop-faults
invariant-loop-faults l = record {
  same : (faults : ℕ) → with_fault_number l.varied.graph faults ≡ with_fault_number l.fn.admitted.graph faults;
  answers : AreAnswers IsJudged l.fn.admitted.graph l.faults l.answers.items;
}
