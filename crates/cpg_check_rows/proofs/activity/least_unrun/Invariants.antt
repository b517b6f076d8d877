-- Loops of `least_unrun`: the least scenario that a cube matches and in which the process of one of its literals isn't
-- active.
use Rattle.std.proofs.Common.{◌&&◌, take, not}
use Rattle.std.specs.List.{list_any}
use Rattle.cpg_base.specs.Activity.{active}
use Rattle.cpg_base.specs.Graph.{process_of_variable}
use Rattle.cpg_base.specs.First.{IsFirst}
use Rattle.cpg_cube.specs.Cube.{matches}
use Rattle.cpg_check_rows.proofs.activity.least_unrun.Given as goal

-- after each literal, `found` is the least scenario that the cube matches and in which the process of one of the
-- literals so far isn't active, and `None` if there is none
abbrev pub invariant-loop-literal : goal.invariant-loop-literal
invariant-loop-literal l = IsFirst l.admitted.graph l.admitted.order
    (λ s. matches l.cube s
    && list_any (λ m. not (active l.admitted.graph s.values (process_of_variable l.admitted.graph m.variable)))
    (take l.literal-index l.cube)) l.found
