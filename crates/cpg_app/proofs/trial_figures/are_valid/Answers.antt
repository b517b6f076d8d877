-- Proof of `are_valid`: whether tables have the head of a graph and keep the ten rules.
use Rattle.std.proofs.Common.{Bool, sym, subst}
use Rattle.std.specs.Prelude.{◌↔◌, IfOk, IsTrue, Result}
use Rattle.cpg_base.specs.declared.memory.OutOfMemory.{OutOfMemory}
use Rattle.cpg_table.specs.Valid.{IsValid}
use Rattle.cpg_violation.specs.Heads.{IsHeadFor}
use Rattle.cpg_check.specs.declared.verdict.Verdict.{Verdict}
use Rattle.cpg_app.proofs.Figures.{is_yes, verdict_is}
use Rattle.cpg_app.proofs.trial_figures.are_valid.Goals.{in-Yes, in-Other, in-No}
use Rattle.cpg_app.proofs.trial_figures.are_valid.Goals as goal

-- The verdict is yes exactly if the tables have the graph's head and are valid. Each of the three verdicts gives its
-- answer.
pub returns : goal.returns
returns c =
    let graph = c.args.admitted.now.graph in
    let tables = c.args.tables.now in
    let Says : Bool → Type 0 = λ found. IsTrue found ↔ (IsHeadFor graph tables.head × IsValid graph tables.nodes) in
    let whole = verdict_is graph c.args.admitted.now.order tables c.in_ok-check.field-0 c.head-head.ensures.lawful
    c.in_ok-check.ensures in
    elim c.match-branch-2.branch [
      | in-Yes w ↦ subst (λ (r : Result Bool OutOfMemory). IfOk r Says) (sym w.result-is)
          (subst (λ (v : Verdict). Says (is_yes v)) w.in-Yes.is whole)
      | in-Other w ↦ subst (λ (r : Result Bool OutOfMemory). IfOk r Says) (sym w.result-is)
          (subst (λ (v : Verdict). Says (is_yes v)) w.in-Other.is whole)
      | in-No w ↦ subst (λ (r : Result Bool OutOfMemory). IfOk r Says) (sym w.result-is)
          (subst (λ (v : Verdict). Says (is_yes v)) w.in-No.is whole)
    ]
