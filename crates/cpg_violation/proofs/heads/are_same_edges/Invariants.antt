-- Loops of `are_same_edges`: whether the edges of two lists have the same ends, place by place.
use Rattle.std.proofs.Common.{◌≡◌, take}
use Rattle.cpg_violation.proofs.heads.are_same_edges.Given as goal

-- the edges up to here are the same
abbrev pub invariant-loop-place : goal.invariant-loop-place
invariant-loop-place l = take l.place l.edges ≡ take l.place l.others
