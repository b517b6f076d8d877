-- Proof of `is_sure`: whether V3 is known to hold at an item, by the tree of its row.
use Rattle.std.proofs.Common.{◌≡◌, ◌∙◌, ap}
use Rattle.cpg_base.specs.Graph.{Graph}
use Rattle.cpg_tree.proofs.Forks.{from_true}
use Rattle.cpg_tree.proofs.Passes.{of_true}
use Rattle.cpg_check_rows.proofs.TreeRows.{present_sure, tree_at}
use Rattle.cpg_violation.proofs.SpaceLaws.{few_of}
use Rattle.cpg_check_rows.proofs.quick_present.is_sure.Goals as goal

-- the tree leads each scenario to a place, whose column matches there, so the item keeps V3
pub returns-then-are_everywhere : goal.returns-then-are_everywhere
returns-then-are_everywhere c tables are =
    let graph = c.args.admitted.now.graph in
    let there = from_true c.are_everywhere.result c.if-are_everywhere.true c.are_everywhere.ensures in
    present_sure graph tables c.args.item (tree_at graph tables c.args.trees.now c.args.item c.in-Some-Some.field-0.now
    c.in-Some-Some.tree c.in-Some-Some.ensures.lookup.3.0 c.in-Some-Some.ensures.lookup.1
    c.in-Some-Some.field-0-is are)
    (λ s law none. absurd (there s none))

-- the item is inactive in each scenario that the tree leads to no place, so it keeps V3
pub returns : goal.returns
returns c =
    let graph = c.args.admitted.now.graph in
    let faults : c.faults.result ≡ graph.faults =
    c.faults.ensures.faults ∙ ap (λ (h : Graph). h.faults) c.problem.ensures.problem in
    of_true c.do_pass.result c.do_pass.ensures (λ all tables are.
    present_sure graph tables c.args.item (tree_at graph tables c.args.trees.now c.args.item c.in-Some-Some.field-0.now
    c.in-Some-Some.tree c.in-Some-Some.ensures.lookup.3.0 c.in-Some-Some.ensures.lookup.1
    c.in-Some-Some.field-0-is are)
    (λ s law. all s (c.whole-space.ensures.lies s (few_of graph c.faults.result faults s law))))
