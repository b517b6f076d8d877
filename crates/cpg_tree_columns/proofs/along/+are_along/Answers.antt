-- Proof of `are_along`, which says whether the forks stand along the order on each way down. `shows` has the trees
-- below and above the cut (0 and 1), that the lists of the two sides are theirs (2 and 3), and that the items are the
-- fork's (4).
use Rattle.std.proofs.Common.{rules, ◌∙◌, sym, subst}
use Rattle.cpg_tree.specs.TreeNode.{TreeNode, Leaf, Fork}
use Rattle.cpg_tree.proofs.Flats.{flat-same}
use Rattle.cpg_tree.proofs.Forks.{from_true}
use Rattle.cpg_tree_columns.specs.Along.{AreForksAlong}
use Rattle.cpg_tree_columns.proofs.along.+are_along.Goals as goal

-- a value has no forks, so all of them stand along the order
pub returns-in-Value : goal.returns-in-Value
returns-in-Value g t c n are =
    subst (λ (m : TreeNode g.row.T.Denot). AreForksAlong c.args.places.now c.args.left m)
    (flat-same (Leaf c.in-Value.field-0) n (sym c.in-Value.ensures.shows ∙ are)) tt

-- no test has failed: the fork's variable has places left, no more than before, and the calls found the forks of both
-- sides to stand along behind it
pub returns-else-not-are_along-2 : goal.returns-else-not-are_along-2
returns-else-not-are_along-2 g t c n are =
    let shows = c.in-Cut.ensures.shows in
    subst (λ (m : TreeNode g.row.T.Denot). AreForksAlong c.args.places.now c.args.left m)
    (flat-same (Fork c.in-Cut.variable c.in-Cut.cut shows.0 shows.1) n (sym shows.4 ∙ are)) (
      search rules,
      search rules,
      from_true c.are_along.result c.if-not-are_along.false c.are_along.ensures shows.0 shows.2,
      from_true c.are_along-in-Cut.result c.if-not-are_along-2.false
          c.are_along-in-Cut.ensures shows.1 shows.3,
    )
