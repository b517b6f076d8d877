-- Loops of `do_variables_rise`: whether each variable is greater than the one before.
use Rattle.std.proofs.Common.{◌≡◌, ◌+◌, ◌&&◌, drop}
use Rattle.cpg_cube.specs.Rising.{rises_from}
use Rattle.cpg_cube.proofs.cube.do_variables_rise.Given as goal

-- all variables rise exactly if those so far do, up to `previous`, and those still to come do from there on
abbrev pub invariant-loop-literal : goal.invariant-loop-literal
invariant-loop-literal l =
    rises_from 0 l.literals ≡ (l.do_rise && rises_from (l.previous + 1) (drop l.literal-index l.rest))
