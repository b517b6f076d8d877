-- Loops of `turn_executions`: what runs after a turn.
use Rattle.std.proofs.Common.{◌≡◌, ◌++◌}
use Rattle.cpg_node.specs.Dispatcher.{running_after}
use Rattle.cpg_node.proofs.Places.{zip_front}
use Rattle.cpg_node.proofs.executions.turn_executions.Given as goal

-- the places so far run what they run after the turn, and those left are as before
abbrev pub invariant-loop-place : goal.invariant-loop-place
invariant-loop-place l =
    l.running ≡ zip_front (running_after (l.ended ++ l.due) l.acts l.time) l.place l.own l.fn.running
