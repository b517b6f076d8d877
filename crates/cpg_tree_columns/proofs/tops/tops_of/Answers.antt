-- Proof of `tops_of`, which returns the greatest number of each tree; `None` for a tree without numbers.
use Rattle.std.proofs.Common.{ℕ, ◌<◌, ◌∙◌, Option, arith, length, sym}
use Rattle.std.proofs.lemmas.List.{get_or_default}
use Rattle.cpg_tree.specs.Tree.{TreeState}
use Rattle.cpg_tree_columns.proofs.PeaksTop.{top_from, tops_more}
use Rattle.cpg_tree_columns.proofs.tops.tops_of.Goals as goal

-- the greatest number of this tree makes the tops of one tree more
pub loop-tree-preserved : goal.loop-tree-preserved
loop-tree-preserved c =
    let trees = c.args.trees.now in
    let n = c.loop-tree.tree-index in
    let tree : TreeState (Option ℕ) = c.tree-item.result in
    let within : n < length trees = omega (arith, c.loop-tree-test.true) in
    tops_more trees n c.loop-tree.tops.items c.push.new.self.items tree c.most.result c.loop-tree.invariant within
    (λ d. get_or_default trees n d tree within ∙ sym c.tree-item.is)
    (top_from tree c.most.result c.most.ensures.none c.most.ensures.some) c.in_ok-push.ensures.items
