-- A list of a judge's answers, by fault number, with one answer more.
use Rattle.std.proofs.Common.{ℕ, ◌+◌, ◌<◌, ◌≡◌, List, [], ◌∷◌, ◌++◌, sym, ap, ◌∙◌, subst, inl, inr, arith}
use Rattle.std.proofs.Common.{ltb-true, ltb-false}
use Rattle.std.specs.Prelude.{nat_lt}
use Rattle.std.proofs.lemmas.Bool.{cases_Bool}
use Rattle.std.proofs.lemmas.List.{length_push, get_or_push, get_or_append_left}
use Rattle.cpg_base.specs.Graph.{Graph}
use Rattle.cpg_rules.specs.FaultNumber.{with_fault_number}
use Rattle.cpg_tune.specs.declared.judge.Judged.{Judged}
use Rattle.cpg_tune.specs.declared.judge.Judged.TheVariants.{Wide}
use Rattle.cpg_tune.specs.Tuned.{AreAnswers, row_at}

-- With the answer for the next fault number at its end, a list of answers has one more.
-- A number is one of those before, or the next one, whose answer stands at the end.
pub answers_push : (answers : Graph → Judged → Type 0) (g : Graph) (count : ℕ) (judged : List Judged) (next : Judged) →
    AreAnswers answers g count judged → answers (with_fault_number g count) next →
    AreAnswers answers g (count + 1) (judged ++ next ∷ [])
answers_push answers g count judged next are new = record {
  long = length_push judged next ∙ ap (λ n. n + 1) are.long;
  each = λ faults below. elim (cases_Bool (nat_lt faults count)) [
    | inl before ↦ earlier faults (ltb-true faults count before)
    | inr past ↦ later faults (let least = ltb-false faults count past in omega (arith, below, least))
  ];
}
  where
    -- the new answer is that for the fault number `count`
    last : answers (with_fault_number g count) (row_at (judged ++ next ∷ []) count)
    last = subst (answers (with_fault_number g count)) (sym (get_or_push judged next (Wide 0) count are.long)) new

    -- the answers before are as they were
    here : (faults : ℕ) → faults < count → row_at (judged ++ next ∷ []) faults ≡ row_at judged faults
    here faults before =
        get_or_append_left judged (next ∷ []) (Wide 0) faults (let long = are.long in omega (arith, before, long))

    -- each answer from before is right
    earlier : (faults : ℕ) → faults < count → answers (with_fault_number g faults) (row_at (judged ++ next ∷ []) faults)
    earlier faults before =
        subst (answers (with_fault_number g faults)) (sym (here faults before)) (are.each faults before)

    -- the new answer is right for its number of faults
    later : (faults : ℕ) → count ≡ faults → answers (with_fault_number g faults) (row_at (judged ++ next ∷ []) faults)
    later faults same = subst (λ k. answers (with_fault_number g k) (row_at (judged ++ next ∷ []) k)) same last
