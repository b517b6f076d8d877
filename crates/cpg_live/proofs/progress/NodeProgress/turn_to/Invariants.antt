-- Loops of `NodeProgress::turn_to`: takes all turns at instants up to `last`.
use Rattle.std.proofs.Common.{◌≡◌, ◌+◌}
use Rattle.cpg_node.specs.Instants.{instants_left}
use Rattle.cpg_live.specs.Stream.{turned}
use Rattle.cpg_live.specs.Feeding.{AreFewTurns}
use Rattle.cpg_live.proofs.progress.NodeProgress.turn_to.Given as goal

-- `turned`: all turns up to the time `last` lead from here to where they lead from the start. `few`: the turns so far
-- are no more than the instants that they used up.
abbrev pub invariant-loop-time : goal.invariant-loop-time
invariant-loop-time l = record {
  turned : turned (l.last + 1) l.self ≡ turned (l.last + 1) l.fn.self;
  few : AreFewTurns (l.last + 1) l.fn.self l.self;
}

-- each turn uses up an instant of the node
abbrev pub decreases-loop-time : goal.decreases-loop-time
decreases-loop-time l = instants_left l.self.dispatcher
