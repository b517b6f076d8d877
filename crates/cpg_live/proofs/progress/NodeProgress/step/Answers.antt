-- Proof of `NodeProgress::step`: takes the turns that come before an event at a time, and then the event, unless it
-- is lawless.
use Rattle.std.proofs.Common.{◌≡◌, true, sym, subst}
use Rattle.cpg_node.specs.Dispatcher.{is_after}
use Rattle.cpg_live.specs.Stream.{NodeProgress}
use Rattle.cpg_live.specs.Feeding.{IsTurned}
use Rattle.cpg_live.proofs.Turns.{turned_end, turned_after}
use Rattle.cpg_live.proofs.progress.NodeProgress.step.Goals as goal

-- the turns before the time were taken, so the next instant isn't before it
pub end-requires-clause-before : goal.end-requires-clause-before
end-requires-clause-before c = subst (λ (p : NodeProgress). IsTurned p.dispatcher c.args.time)
    (sym c.turn_before-in-End.ensures) (turned_end c.args.time c.args.self.now)

-- only turns before the time were taken, so the last one is still before it
pub end-requires-clause-after : goal.end-requires-clause-after
end-requires-clause-after c = subst (λ (p : NodeProgress). is_after p.dispatcher.last c.args.time ≡ true)
    (sym c.turn_before-in-End.ensures) (turned_after c.args.time c.args.self.now c.requires)
