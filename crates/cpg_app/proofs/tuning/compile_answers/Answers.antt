-- Proof of `compile_answers`, which returns the answers for an admitted graph with each fault number from 0 to 8.
use Rattle.std.proofs.Common.{◌≡◌, ◌+◌, ◌∙◌, sym, ap, subst}
use Rattle.cpg_base.specs.Graph.{Graph}
use Rattle.cpg_rules.specs.FaultNumber.{with_fault_number}
use Rattle.cpg_tune.specs.Tuned.{AreAnswers}
use Rattle.cpg_tune.proofs.Answered.{answers_push}
use Rattle.cpg_app.specs.Tunes.{IsJudged}
use Rattle.cpg_app.proofs.tuning.compile_answers.Goals as goal

-- one more number of faults has its answer
pub loop-faults-preserved : goal.loop-faults-preserved
loop-faults-preserved c =
    let graph : Graph = c.args.admitted.graph in
    let varied = c.in_ok-varied.varied in
    let faults = c.loop-faults.faults in
    -- the varied graph is the graph with this fault number
    let is : varied.graph ≡ with_fault_number graph faults =
    c.in_ok-varied.ensures.graph ∙ c.loop-faults.invariant.same faults in
    -- it is admitted, and its compile gives its answer
    let judged : IsJudged varied.graph c.in_ok-compile_answer.field-0 = record {
      order = varied.order;
      guards = varied.guards;
      admitted = c.in_ok-varied.ensures.admitted;
      answer = c.in_ok-compile_answer.ensures;
    } in
    record {
      same = λ k. ap (λ (h : Graph). with_fault_number h k) is;
      answers = subst (AreAnswers IsJudged graph (faults + 1)) (sym c.in_ok-push.ensures.items)
          (answers_push IsJudged graph faults c.loop-faults.answers.items c.in_ok-compile_answer.field-0
          c.loop-faults.invariant.answers
          (subst (λ (h : Graph). IsJudged h c.in_ok-compile_answer.field-0) is judged));
    }
