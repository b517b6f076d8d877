-- Proof of `NodeProgress::turn_to`: takes all turns at instants up to `last`.
use Rattle.std.proofs.Common.{◌+◌, refl, sym, ap, ◌∙◌}
use Rattle.cpg_live.specs.Stream.{turned}
use Rattle.cpg_live.proofs.Turns.{turned_next, turned_last, few_none, few_next}
use Rattle.cpg_live.proofs.progress.NodeProgress.turn_to.Goals as goal

-- before the loop no turn is taken
pub loop-time-init : goal.loop-time-init
loop-time-init c = record { turned = refl; few = few_none (c.args.last + 1) c.args.self.now }

-- a turn leaves fewer instants that the node could come to
pub loop-time-smaller : goal.loop-time-smaller
loop-time-smaller c = c.take_turn.ensures.fewer

-- `turned`: this turn is the first of those left up to `last`. `few`: it uses up an instant
pub loop-time-preserved : goal.loop-time-preserved
loop-time-preserved c =
    let here = sym c.instant_to.ensures ∙ c.in-Some.is in
    record {
      turned = ap (turned (c.args.last + 1)) c.take_turn.ensures.turn
          ∙ turned_next (c.args.last + 1) c.loop-time.self c.in-Some.time here ∙ c.loop-time.invariant.turned;
      few = few_next (c.args.last + 1) c.args.self.now c.loop-time.self c.take_turn.new.self c.in-Some.time
          c.loop-time.invariant.few here c.take_turn.ensures.turn c.take_turn.ensures.fewer;
    }

-- no instant is left up to `last`, so no more turns are to be taken
pub returns-clause-turns : goal.returns-clause-turns
returns-clause-turns c =
    sym (turned_last (c.args.last + 1) c.loop-time.self (sym c.instant_to.ensures ∙ c.in_default.is))
    ∙ c.loop-time.invariant.turned

-- by the invariant
pub returns-clause-few : goal.returns-clause-few
returns-clause-few c = c.loop-time.invariant.few
