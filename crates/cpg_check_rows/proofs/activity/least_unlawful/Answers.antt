-- Proof of `least_unlawful`: the least scenario in which a column breaks V1: it matches, and its item, or the process
-- of one of its literals, isn't active.
use Rattle.std.proofs.Common.{not}
use Rattle.std.specs.List.{list_any}
use Rattle.cpg_base.specs.Activity.{active, item_active}
use Rattle.cpg_base.specs.Graph.{item_at, process_of_variable}
use Rattle.cpg_cube.specs.Cube.{matches}
use Rattle.cpg_violation.proofs.Columnwise.{first_either}
use Rattle.cpg_violation.proofs.Violations.{long_order}
use Rattle.cpg_check_rows.proofs.activity.least_unlawful.Goals as goal

-- the urgency order has each process
pub earlier-requires-clause-order : goal.earlier-requires-clause-order
earlier-requires-clause-order c =
    rw (c.order.ensures.order, c.problem.ensures.problem) (long_order c.order.ensures.admitted)

-- the column breaks V1 where it matches and its item or the process of a literal is inactive, so the earlier of the
-- least scenarios of both kinds is the least
pub returns : goal.returns
returns c =
    let graph = c.args.admitted.now.graph in
    let cube = c.args.column.now.cube in
    rw (c.earlier.ensures, c.order.ensures.order, c.problem.ensures.problem)
    (first_either graph c.args.admitted.now.order (matches cube)
    (λ s. not (item_active graph s.values (item_at graph c.args.item)))
    (λ s. list_any (λ l. not (active graph s.values (process_of_variable graph l.variable))) cube)
    c.in_ok-inactive.inactive c.in_ok-unrun.unrun c.in_ok-inactive.ensures c.in_ok-unrun.ensures)
