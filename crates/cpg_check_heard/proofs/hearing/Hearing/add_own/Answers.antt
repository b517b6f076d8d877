-- Proof of `Hearing::add_own`: adds to `told` cubes such that, where `cube` matches, one of the added ones does exactly
-- where an end on the node tells a bound by a time.
use Rattle.std.proofs.Common.{◌≡◌, ◌<◌, ◌==◌, ◌&&◌, ◌||◌, ◌∙◌, [], arith, sym, ap, subst, eq-eqb}
use Rattle.std.specs.List.{list_any}
use Rattle.cpg_base.specs.Graph.{item_count, node_of, process_count, process_of_variable}
use Rattle.cpg_cube.specs.Cube.{matches}
use Rattle.cpg_violation.specs.SievedRows.{IsSievedRow}
use Rattle.cpg_violation.proofs.Violations.{columns_known}
use Rattle.cpg_check_heard.specs.Bounds.{variable_of}
use Rattle.cpg_check_heard.specs.Untold.{item_tells}
use Rattle.cpg_check_heard.proofs.Facts.{own_can}
use Rattle.cpg_check_heard.proofs.TellingRowLists.{row_at}
use Rattle.cpg_check_heard.proofs.hearing.Hearing.add_own.Goals as goal

-- the end of a process can tell a bound of its own variables, and the bound's variable is one of them
pub add_row-requires-clause-can : goal.add_row-requires-clause-can
add_row-requires-clause-can c =
    let graph = c.args.self.now.admitted.now.graph in
    let tables = c.args.self.now.tables.now.nodes in
    let process = c.process_of_variable-process.result in
    let row = c.index-row.result.now in
    -- the process of the variable, and its row
    let process_below : process < process_count graph =
    rw c.problem-problem.ensures.problem at c.process_of_variable-process.ensures.within in
    let below : process < item_count graph = omega arith in
    let is = row_at graph tables
    (item_count graph) c.args.self.now.telling_rows.items process row c.requires.hearing.telling_rows
    below c.index-row.ensures in
    -- it is the bound's process
    let here : process ≡ process_of_variable graph (variable_of c.args.bound) =
    rw (← c.problem-problem.ensures.problem, ← c.variable.ensures) c.process_of_variable-process.ensures.process in
    rw (
      c.problem-problem.ensures.problem,
      is.means,
    ) (own_can graph tables c.args.time c.args.bound (record { values = []; faults = [] }) process
    process_below (sym here))

-- the columns of the process's row are on variables of the graph
pub add_row-requires-clause-columns : goal.add_row-requires-clause-columns
add_row-requires-clause-columns c =
    let graph = c.args.self.now.admitted.now.graph in
    let tables = c.args.self.now.tables.now.nodes in
    let process = c.process_of_variable-process.result in
    let row = c.index-row.result.now in
    -- the process of the variable, and its row
    let process_below : process < process_count graph =
    rw c.problem-problem.ensures.problem at c.process_of_variable-process.ensures.within in
    let below : process < item_count graph = omega arith in
    let is = row_at graph tables
    (item_count graph) c.args.self.now.telling_rows.items process row c.requires.hearing.telling_rows
    below c.index-row.ensures in
    rw (c.problem-problem.ensures.problem, is.sieved.all)
    (columns_known c.requires.hearing.admitted tables c.requires.hearing.tables process)

-- the telling row at the process's number has the sieved row of the process
pub add_row-requires-clause-row : goal.add_row-requires-clause-row
add_row-requires-clause-row c =
    let graph = c.args.self.now.admitted.now.graph in
    let tables = c.args.self.now.tables.now.nodes in
    let process = c.process_of_variable-process.result in
    let row = c.index-row.result.now in
    -- the process of the variable, and its row
    let process_below : process < process_count graph =
    rw c.problem-problem.ensures.problem at c.process_of_variable-process.ensures.within in
    let below : process < item_count graph = omega arith in
    let is = row_at graph tables
    (item_count graph) c.args.self.now.telling_rows.items process row c.requires.hearing.telling_rows
    below c.index-row.ensures in
    subst (λ columns. IsSievedRow columns row.sieved.now) (sym is.sieved.all) is.sieved

-- the process is on the node, so its row tells all that the node's own ends tell
pub returns-clause-told : goal.returns-clause-told
returns-clause-told c =
    let graph = c.args.self.now.admitted.now.graph in
    let tables = c.args.self.now.tables.now.nodes in
    let process = c.process_of_variable-process.result in
    let row = c.index-row.result.now in
    -- the process of the variable, and its row
    let process_below : process < process_count graph =
    rw c.problem-problem.ensures.problem at c.process_of_variable-process.ensures.within in
    let below : process < item_count graph = omega arith in
    let is = row_at graph tables
    (item_count graph) c.args.self.now.telling_rows.items process row c.requires.hearing.telling_rows
    below c.index-row.ensures in
    -- it is the bound's process, and runs on the node
    let here : process ≡ process_of_variable graph (variable_of c.args.bound) =
    rw (← c.problem-problem.ensures.problem, ← c.variable.ensures) c.process_of_variable-process.ensures.process in
    let home : node_of graph process ≡ c.args.node =
    rw c.problem-problem.ensures.problem at (sym c.node_of.ensures.node ∙ c.if-node_of-node.false) in
    -- so what the node's own ends tell is what this row tells
    λ s i m.
    let tells = item_tells graph tables c.args.time c.args.bound s in
    rw (c.problem-problem.ensures.problem, is.means, is.sieved.all) at c.in_ok-add_row.ensures.told s i m
    ∙ ap (λ a. list_any (λ b. matches b s) c.args.told.now.items || a)
    (sym (ap (λ q. (node_of graph q == c.args.node) && tells q) (sym here)
    ∙ ap (λ a. a && tells process) (eq-eqb (node_of graph process) c.args.node home)))
