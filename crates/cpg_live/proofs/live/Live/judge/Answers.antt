-- Proof of `Live::judge`: takes a record, or notes that it is lawless, for its kind, its time or what it says.
use Rattle.std.proofs.Common.{◌≡◌, true, ap, ◌∙◌, subst, arith}
use Rattle.cpg_node.specs.Dispatcher.{is_after}
use Rattle.cpg_node.proofs.Rooms.{after_later}
use Rattle.cpg_live.specs.Stream.{LiveState}
use Rattle.cpg_live.proofs.live.Live.judge.Goals as goal

-- the time of the record isn't before that of the last one, and that is after the last turn
pub take-requires : goal.take-requires
take-requires c = subst (λ (s : LiveState). is_after s.progress.dispatcher.last c.args.told.time ≡ true) c.self.view_is
    (after_later c.self.inside.progress.dispatcher.last c.self.inside.time c.args.told.time
    (c.self.invariant.later (ap (λ (s : LiveState). s.lawless) c.self.view_is ∙ c.requires.lawful)
    (ap (λ (s : LiveState). s.closed) c.self.view_is ∙ c.requires.open))
    (omega (arith, c.if-told-self.false)))
