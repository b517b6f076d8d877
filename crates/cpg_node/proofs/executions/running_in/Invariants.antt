-- Loops of `running_in`: the execution of a process, or `None` if it doesn't run on this node.
use Rattle.std.proofs.Common.{◌≡◌, drop}
use Rattle.cpg_node.specs.State.{running_in}
use Rattle.cpg_node.proofs.executions.running_in.Given as goal

-- no place so far is that of the process, so what runs for it is found among the places left
abbrev pub invariant-loop-place : goal.invariant-loop-place
invariant-loop-place l =
    running_in l.own l.running l.process ≡ running_in (drop l.place l.own) (drop l.place l.running) l.process
