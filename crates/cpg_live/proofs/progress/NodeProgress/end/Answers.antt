-- Proof of `NodeProgress::end`: takes the end of an execution of a process, unless the process can't report it then.
use Rattle.std.proofs.Common.{◌≡◌, true, sym, ◌∙◌, subst}
use Rattle.cpg_node.specs.Dispatcher.{is_after}
use Rattle.cpg_live.specs.Stream.{NodeProgress}
use Rattle.cpg_live.specs.Feeding.{IsTurned}
use Rattle.cpg_live.proofs.Steps.{may_finish}
use Rattle.cpg_live.proofs.progress.NodeProgress.end.Goals as goal

-- `may_end` says that the process may report this end, and all turns before its time are taken: so the node may note it
pub finished-requires : goal.finished-requires
finished-requires c = may_finish c.self.inside.node.dispatcher c.args.time
    (record { process = c.args.process; faults = c.in-Some.faults; value = c.args.value })
    (subst (λ (p : NodeProgress). IsTurned p.dispatcher c.args.time) (sym c.self.view_is) c.requires.before)
    (subst (λ (p : NodeProgress). is_after p.dispatcher.last c.args.time ≡ true) (sym c.self.view_is) c.requires.after)
    (sym c.may_end.ensures ∙ c.if-not-may_end.false)
