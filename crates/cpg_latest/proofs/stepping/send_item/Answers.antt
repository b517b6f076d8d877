-- Proof of `send_item`: sends an active item of a process in a course: sets its time, and when the slots of the node
-- are free after it.
use Rattle.std.proofs.Common.{◌≡◌, ◌∙◌, max, ap₂, arith}
use Rattle.cpg_base.proofs.Bounds.{round-le}
use Rattle.cpg_latest.specs.Lanes.{send_at}
use Rattle.cpg_latest.proofs.stepping.send_item.Goals as goal

-- the time of the send is below 2 ^ 59 and a round is short, so the sum doesn't overflow
pub overflow_add-free : goal.overflow_add-free
overflow_add-free c =
    let graph = c.args.setting.now.problem.now in
    let is : c.max-time.result ≡ send_at graph c.args.frozen.now c.args.process c.args.item c.args.course.now =
    c.max-time.ensures ∙ ap₂ max c.unfrozen_send.ensures c.frozen_time.ensures in
    omega (arith, is, c.requires.time, c.round.ensures, round-le graph c.requires.setting.admitted.1.limits)
