-- Proof of `Hearing::has_ended`: whether the process of a variable is on a node, and ends by a time even if it starts
-- by its last column and has all faults.
use Rattle.std.proofs.Common.{◌≡◌, ◌<◌, ◌≤◌, ◌∙◌, All, arith, sym, subst}
use Rattle.cpg_base.specs.Duration.{duration}
use Rattle.cpg_base.specs.Graph.{item_count, node_of, process_count, process_of_variable}
use Rattle.cpg_table.specs.Table.{columns_of}
use Rattle.cpg_cube.specs.declared.column.Column.{Column}
use Rattle.cpg_check_heard.proofs.Endings.{ended_by}
use Rattle.cpg_check_heard.proofs.TellingRowLists.{row_at}
use Rattle.cpg_check_heard.proofs.hearing.Hearing.has_ended.Goals as goal

-- the last column of the process and its longest execution end by the time, so all do
pub returns : goal.returns
returns c =
    let graph = c.args.self.now.admitted.now.graph in
    let tables = c.args.self.now.tables.now.nodes in
    let process = c.process_of_variable-process.result in
    let row = c.index.result.now in
    -- the process of the variable, and its row
    let process_below : process < process_count graph =
    rw c.problem-problem.ensures.problem at c.process_of_variable-process.ensures.within in
    let below : process < item_count graph = omega arith in
    let is = row_at graph tables
    (item_count graph) c.args.self.now.telling_rows.items process row c.requires.hearing.telling_rows
    below c.index.ensures in
    -- it runs on the node
    let here : process ≡ process_of_variable graph c.args.variable =
    rw c.problem-problem.ensures.problem at c.process_of_variable-process.ensures.process in
    let home : node_of graph process ≡ c.args.node =
    rw c.problem-problem.ensures.problem at (sym c.node_of.ensures.node ∙ c.if-node_of-node.false) in
    -- with all faults its execution takes longest
    let longest : c.duration-longest.result ≡ duration graph process graph.faults =
    rw (← c.problem-problem.ensures.problem) (rw c.faults.ensures.faults at c.duration-longest.ensures.duration) in
    -- even that, from the row's last column on, has ended by the time
    ended_by graph tables c.args.node c.args.variable c.args.time row.sieved.now.last c.duration-longest.result
    c.has_come.result c.has_come.ensures.is (subst (λ q. node_of graph q ≡ c.args.node) here home)
    (subst (λ q. c.duration-longest.result ≡ duration graph q graph.faults) here longest)
    (subst (λ q. All (λ (d : Column). d.time ≤ row.sieved.now.last) (columns_of tables q)) here is.sieved.last)
