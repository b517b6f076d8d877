-- Proof of `nodes_of`: the tables of all nodes.
use Rattle.std.proofs.Common.{arith, ap, ◌≡◌, ◌≤◌, ◌<◌, ◌+◌, ◌-◌, length, ℕ}
use Rattle.std.proofs.lemmas.Result.{err_from_is_err_and}
use Rattle.cpg_table.specs.Table.{NodeTable}
use Rattle.cpg_table.specs.Lawful.{column_count, rows_of}
use Rattle.cpg_codec.specs.Grammar.{read_node_table, numbers_from, read_nodes}
use Rattle.cpg_codec.proofs.Loop.{goes_on, ends, is_done, nothing_in_front}
use Rattle.cpg_codec.proofs.TableFields.{numbers_more, numbers_none}
use Rattle.cpg_codec.proofs.reading.nodes_of.Goals as goal

-- how many columns there are with one table more
abbrev step : ℕ → NodeTable → ℕ
step c t = c + column_count (rows_of t)

-- at the start nothing is read, and all nodes are left
pub loop-node-init : goal.loop-node-init
unfolding read_nodes
loop-node-init c =
    let all_left : length c.args.head.now.nodes - 0 ≡ length c.args.head.now.nodes = omega arith in
    record { so_far = rw (c.new-nodes.ensures.items, all_left) (nothing_in_front _); few = omega arith }

-- the table of the next node can't be read; by the invariant reading all of them then fails in the same way
pub returns-in_err-table : goal.returns-in_err-table
returns-in_err-table c =
    let failure = err_from_is_err_and c.from_residual-in_err-table.result c.from_residual-in_err-table.ensures.1 in
    let counts = ap length c.nodes.ensures.nodes in
    let is_node : c.loop-node.node < length c.args.head.now.nodes = omega (arith, counts, c.loop-node-test.true) in
    rw (failure.1, failure.2) (ends step (read_node_table c.args.head.now) c.in_err-table.field-0.0
    c.loop-node.nodes.items
    (numbers_from c.loop-node.node (length c.args.head.now.nodes - c.loop-node.node)) c.loop-node.node
    (numbers_from (c.loop-node.node + 1) (length c.args.head.now.nodes - (c.loop-node.node + 1))) c.loop-node.total
    c.loop-node.unread
    (read_nodes c.args.head.now c.args.unread.now)
    (numbers_more c.loop-node.node (length c.args.head.now.nodes) is_node)
    c.in_err-table.ensures.gives c.loop-node.invariant.so_far)

-- the table of the next node is read; by the invariant reading all goes on with the bytes after it
pub loop-node-preserved : goal.loop-node-preserved
loop-node-preserved c =
    let counts = ap length c.nodes.ensures.nodes in
    let is_node : c.loop-node.node < length c.args.head.now.nodes = omega (arith, counts, c.loop-node-test.true) in
    let going_on = goes_on step (read_node_table c.args.head.now) c.loop-node.nodes.items
    (numbers_from c.loop-node.node (length c.args.head.now.nodes - c.loop-node.node)) c.loop-node.node
    (numbers_from (c.loop-node.node + 1) (length c.args.head.now.nodes - (c.loop-node.node + 1))) c.loop-node.total
    c.loop-node.unread c.in_ok-table.table c.table_of.new.unread
    (read_nodes c.args.head.now c.args.unread.now)
    (numbers_more c.loop-node.node (length c.args.head.now.nodes) is_node)
    c.in_ok-table.ensures.gives c.loop-node.invariant.so_far in
    record {
      so_far = rw (c.in_ok-push.ensures.items, c.in_ok-table.ensures.total.0) going_on;
      few = c.in_ok-table.ensures.total.1;
    }

-- no node is left, so the tables so far are all
pub returns : goal.returns
returns c =
    let counts = ap length c.nodes.ensures.nodes in
    let none_left : length c.args.head.now.nodes ≤ c.loop-node.node = omega (arith, counts, c.loop-node-test.false) in
    is_done step (read_node_table c.args.head.now) c.loop-node.nodes.items
    (numbers_from c.loop-node.node (length c.args.head.now.nodes - c.loop-node.node)) c.loop-node.total
    c.loop-node.unread
    (read_nodes c.args.head.now c.args.unread.now)
    (numbers_none c.loop-node.node (length c.args.head.now.nodes) none_left) c.loop-node.invariant.so_far
