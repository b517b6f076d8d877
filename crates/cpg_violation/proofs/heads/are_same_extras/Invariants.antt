-- Loops of `are_same_extras`: whether a head has the graph's releases and own deadlines, which only version 2 has.
use Rattle.std.proofs.Common.{◌≡◌, IfSome, map, take}
use Rattle.cpg_head.specs.GraphHead.{extra_of}
use Rattle.cpg_violation.proofs.heads.are_same_extras.Given as goal

-- the extras up to here are those of the graph's processes
abbrev pub invariant-loop-process : goal.invariant-loop-process
invariant-loop-process l =
    IfSome l.head.extras (λ extras. take l.process extras ≡ take l.process (map extra_of l.problem.processes))
