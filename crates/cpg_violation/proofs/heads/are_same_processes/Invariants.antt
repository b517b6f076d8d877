-- Loops of `are_same_processes`: whether two lists of processes of heads are the same, place by place.
use Rattle.std.proofs.Common.{◌≡◌, take}
use Rattle.cpg_violation.proofs.heads.are_same_processes.Given as goal

-- the processes up to here are the same
abbrev pub invariant-loop-place : goal.invariant-loop-place
invariant-loop-place l = take l.place l.processes ≡ take l.place l.others
