-- Proof of `are_same_extras`: whether a head has the graph's releases and own deadlines, which only version 2 has.
use Rattle.std.proofs.Common.{◌≤◌, List, length, ap, arith, subst, IfSome, ◌∙◌, get_or, refl}
use Rattle.cpg_base.specs.declared.process.Process.{Process}
use Rattle.cpg_head.specs.GraphHead.{extra_of}
use Rattle.cpg_head.specs.Head.{AreExtras}
use Rattle.cpg_violation.proofs.ExtraLists.{extras_more, extras_whole}
use Rattle.cpg_violation.proofs.heads.are_same_extras.Goals as goal

-- the next process has what the head says of it, so this is so of one process more
pub loop-process-preserved : goal.loop-process-preserved
loop-process-preserved c =
    extras_more c.args.problem.now.processes c.loop-process.process c.in-Some.extra.now c.index-processes-process.result
    (omega (arith, c.loop-process-test.true, ap length c.processes-processes.ensures.processes)) c.args.head.now.extras
    c.in-Some.ensures.extra
    (c.if-not-is_same_extra.ensures.0 refl ∙ ap extra_of c.index-processes-process.is ∙
    ap (λ (ps : List Process). extra_of (get_or ps c.loop-process.process c.index-processes-process.result))
    c.processes-processes.ensures.processes) c.loop-process.invariant

-- the loop has seen all processes
pub returns : goal.returns
returns c =
    let past : length c.args.problem.now.processes ≤ c.loop-process.process =
    omega (arith, c.loop-process-test.false, ap length c.processes-processes.ensures.processes) in
    let few : IfSome c.args.head.now.extras (AreExtras (length c.args.problem.now.processes)) =
    subst (λ n. IfSome c.args.head.now.extras (AreExtras n)) c.requires c.processes-described.ensures.within.extras in
    let all = extras_whole c.args.problem.now.processes c.loop-process.process c.args.head.now.extras past few
    c.loop-process.invariant in
    (λ _. all, λ _. refl)
