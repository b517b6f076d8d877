-- Loops of `least_of_lacking`: the least scenario in which a column matches, and one of these inputs is there only
-- after the column's time.
use Rattle.std.proofs.Common.{take}
use Rattle.std.specs.List.{list_any}
use Rattle.cpg_base.specs.First.{IsFirst}
use Rattle.cpg_check_time.specs.Inputs.{lacks_input}
use Rattle.cpg_check_time.proofs.inputs.least_of_lacking.Given as goal

-- after each edge, `found` is the least scenario in which the column lacks one of the inputs so far, and `None` if
-- there is none
abbrev pub invariant-loop-edge : goal.invariant-loop-edge
invariant-loop-edge l = IsFirst l.admitted.graph l.admitted.order
    (λ s. list_any (λ e. lacks_input l.admitted.graph l.tables.nodes l.column e s) (take l.edge-index l.edges)) l.found
