-- Proof of `time_fault`: the first violation of V4 to V9, by rule, item and column, with its least scenario.
use Rattle.std.proofs.Common.{◌∙◌, ap}
use Rattle.cpg_base.specs.Graph.{item_count}
use Rattle.cpg_check.proofs.verdict.time_fault.Goals as goal

-- each item is marked for each rule from V4 to V9, and marks are right, so these rules hold
pub returns-then-are_all-clause-none : goal.returns-then-are_all-clause-none
returns-then-are_all-clause-none c = c.if-are_all.ensures c.args.admitted.now.graph c.args.tables.now.nodes
    (c.item_count.ensures ∙ ap item_count c.problem-problem.ensures.problem) c.in_ok-marks.ensures
