-- Loops of `Cubes::whole`: makes `count` cubes that match every scenario.
use Rattle.std.proofs.Common.{◌≡◌, [], replicate}
use Rattle.cpg_list.proofs.state.Cubes.whole.Given as goal

-- the cubes so far are one for each turn, without literals
abbrev pub invariant-loop : goal.invariant-loop
invariant-loop l = l.cubes.items ≡ replicate l.counter []
