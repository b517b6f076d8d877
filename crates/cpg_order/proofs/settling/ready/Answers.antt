-- Proof of `ready`: returns the processes that wait for no input, the lowest first.
use Rattle.std.proofs.Common.{◌≡◌, ◌∙◌, ◌==◌, ap, filter, get_or, length, arith, eq-eqb}
use Rattle.std.proofs.lemmas.Bool.{ne_eqb}
use Rattle.cpg_base.specs.Numbers.{numbers_below}
use Rattle.cpg_base.proofs.Lists.{filter_below_takes, filter_below_skips}
use Rattle.cpg_order.proofs.Readiness.{ready_first}
use Rattle.cpg_order.proofs.settling.ready.Goals as goal
use Rattle.cpg_order.proofs.settling.ready.Goals.{then-waits_for-eq0+in_ok-push, else-waits_for-eq0}

-- a process that waits for no input is listed, and one that waits is passed over
pub loop-process-preserved : goal.loop-process-preserved
loop-process-preserved c = elim c.if-waits_for-eq0.branch [
  -- the process waits for no input: it is added
  | then-waits_for-eq0+in_ok-push w ↦ filter_below_takes (λ p. get_or c.args.waiting.now p 0 == 0) c.loop-process.ready.items
      c.if-waits_for-eq0.ready.items c.loop-process.process c.loop-process.invariant
      (eq-eqb (get_or c.args.waiting.now c.loop-process.process 0) 0 w.if-waits_for-eq0.true)
      (ap (λ v. v.items) w.ready-is ∙ w.in_ok-push.ensures.items)
  -- it waits: it is passed over
  | else-waits_for-eq0 w ↦ ap (λ v. v.items) w.ready-is ∙ filter_below_skips (λ p. get_or c.args.waiting.now p 0 == 0)
      c.loop-process.ready.items c.loop-process.process c.loop-process.invariant
      (ne_eqb (get_or c.args.waiting.now c.loop-process.process 0) 0 w.if-waits_for-eq0.false)
]

-- all processes have been visited, so exactly those that wait for no input are listed
pub returns : goal.returns
returns c =
    let at : c.loop-process.process ≡ length c.args.waiting.now = omega arith in
    ready_first c.args.waiting.now c.loop-process.ready.items
    (c.loop-process.invariant ∙ ap (λ n. filter (λ p. get_or c.args.waiting.now p 0 == 0) (numbers_below n)) at)
