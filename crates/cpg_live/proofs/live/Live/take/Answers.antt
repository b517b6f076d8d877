-- Proof of `Live::take`: takes the turns before a record of a lawful kind and time, and then the record, or notes that
-- it is lawless.
use Rattle.std.proofs.Common.{◌≡◌, true, sym, ap, ◌∙◌, subst}
use Rattle.cpg_node.specs.Dispatcher.{is_after}
use Rattle.cpg_live.specs.Stream.{NodeProgress, LiveState}
use Rattle.cpg_live.proofs.Steps.{step_after}
use Rattle.cpg_live.proofs.live.Live.take.Goals as goal

-- `later`: if the event is no close, only turns before its time were taken, so the last one is before it
pub invariant_of-self-2 : goal.invariant_of-self-2
invariant_of-self-2 c = record {
  part = c.self.invariant.part;
  room = c.self.invariant.room;
  later = λ lawful open'.
      subst (λ (p : NodeProgress). is_after p.dispatcher.last c.args.time ≡ true) (sym c.step.ensures.progress)
      (step_after c.args.time c.args.event c.self.inside.progress
      (ap (λ (s : LiveState). is_after s.progress.dispatcher.last c.args.time) c.self.view_is ∙ c.requires)
      (sym c.is_close-self-inside.ensures ∙ open'));
}
