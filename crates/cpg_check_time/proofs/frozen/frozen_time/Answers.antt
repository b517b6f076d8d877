-- Proof of `frozen_time`: the time that an item has to have if it is frozen: that of its first column that matches in
-- some scenario.
use Rattle.cpg_violation.proofs.HeadLaws.{tables_of_graph}
use Rattle.cpg_check_time.proofs.Judging.{columns_are}
use Rattle.cpg_check_time.proofs.frozen.frozen_time.Goals as goal

-- the columns of the item are columns of the graph
pub possible_time-requires : goal.possible_time-requires
possible_time-requires c = rw (c.problem-problem.ensures.problem, c.columns_of.ensures.columns)
    (columns_are c.problem-problem.ensures.admitted c.args.tables.now.nodes
    (tables_of_graph c.args.admitted.now.graph c.args.tables.now.head c.args.tables.now.nodes c.requires.head
    c.columns_of.ensures.lawful) c.args.item)
