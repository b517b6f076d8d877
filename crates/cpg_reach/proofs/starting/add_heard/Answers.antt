-- Proof of `add_heard`, which adds the values of the conditions that decide a process, and what the times depend on at
-- which the node hears them.
use Rattle.std.proofs.Common.{◌≡◌, ◌∷◌, ◌∙◌, [], sym, ap, subst, filter, get_or, arith}
use Rattle.cpg_base.specs.Numbers.{numbers_below}
use Rattle.cpg_base.specs.Graph.{condition_count, value_variable}
use Rattle.cpg_order.specs.Reach.{is_in, hearing_reach}
use Rattle.cpg_reach.specs.Variables.{Adds}
use Rattle.cpg_reach.specs.Walked.{heard_by}
use Rattle.cpg_reach.proofs.Adding.{adds_two, loop_takes, loop_skips, deciding_filter, set_at}
use Rattle.cpg_reach.proofs.starting.add_heard.Goals as goal
use Rattle.cpg_reach.proofs.starting.add_heard.Goals.{then-has, else-has}

-- this condition is added if it decides the process
pub loop-condition-preserved : goal.loop-condition-preserved
loop-condition-preserved c =
    let at : c.index-deciding-process.result ≡ get_or c.args.deciding.now c.args.process [] =
    set_at c.args.deciding.now c.args.process c.index-deciding-process.result
    (omega (arith, c.requires.deciding.count, c.requires.process)) c.index-deciding-process.is in
    elim c.if-has.branch [
      -- the condition decides the process: its value is added, and what hearing it depends on
      | then-has w ↦ λ v. ap (λ xs. is_in xs v) w.reach-is
          ∙ loop_takes (λ d. value_variable d ∷ hearing_reach c.args.problem.now c.args.reaches.now c.args.node d)
          (λ d. is_in (get_or c.args.deciding.now c.args.process []) (value_variable d))
          c.loop-condition.condition c.args.reach.now c.loop-condition.reach c.loop-condition.invariant
          w.add_hearing.new.reach
          (ap (λ xs. is_in xs (value_variable c.loop-condition.condition)) (sym at) ∙ sym w.if-has.ensures)
          (adds_two c.loop-condition.reach (value_variable c.loop-condition.condition ∷ []) w.insert.new.self
          (hearing_reach c.args.problem.now c.args.reaches.now c.args.node c.loop-condition.condition)
          w.add_hearing.new.reach w.insert.ensures w.add_hearing.ensures) v
      -- it doesn't: nothing is added
      | else-has w ↦ λ v. ap (λ xs. is_in xs v) w.reach-is
          ∙ loop_skips (λ d. value_variable d ∷ hearing_reach c.args.problem.now c.args.reaches.now c.args.node d)
          (λ d. is_in (get_or c.args.deciding.now c.args.process []) (value_variable d))
          c.loop-condition.condition c.args.reach.now c.loop-condition.reach c.loop-condition.invariant
          (ap (λ xs. is_in xs (value_variable c.loop-condition.condition)) (sym at) ∙ sym w.if-has.ensures) v
    ]

-- all conditions of the graph have been gone over, so those that decide the process are added
pub returns : goal.returns
returns c =
    let done = c.loop-condition-test.false in
    let at : c.loop-condition.condition ≡ condition_count c.args.problem.now =
    omega (arith, c.conditions-condition-end.ensures.count) in
    subst (λ cs.
    Adds c.args.reach.now (heard_by c.args.problem.now c.args.reaches.now c.args.node cs) c.loop-condition.reach)
    (ap (λ n. filter (λ d. is_in (get_or c.args.deciding.now c.args.process []) (value_variable d)) (numbers_below n))
    at
    ∙ deciding_filter c.args.problem.now c.args.deciding.now c.requires.deciding c.args.process c.requires.process)
    c.loop-condition.invariant
